-- How long a packet waits, whatever turns are played: the packets of the other queue that go before it are counted.
use Prim.Native.Nat.{ℕ, zero, suc, ◌+◌, ◌-◌, ◌*◌, ◌/◌, ◌≤◌, ◌<◌, min}
use native.Mathlib.Omega.{arith}
use mathlib.Core.Path.{◌≡◌, refl, sym, ◌∙◌, ap}
use mathlib.Core.Logic.{◌≢◌}
use mathlib.Core.List.{List, [], ◌∷◌, ◌++◌, append_assoc}
use lib.ListN.{length, length-append}
use Rattle.queues.specs.Channel.{Sent, FromControl, FromFilm}
use Rattle.queues.specs.Order.{Goes, control-first, film-after_four, control-alone, film-alone, Within, soon, not_yet}
use Rattle.queues.specs.Rows.{Behind, yet_to_come, comes, own_first, other-first}
use Rattle.queues.proofs.Laws.Turns.{Turns, over, adds, takes}

-- the queue that a packet waits in: what is said of both is proved once
pub data Side : Type 0 where
  Control : Side
  Film : Side

abbrev pub of : {A : Type 0} → Side → A → A → A
of Control x y = x
of Film x y = y

abbrev pub own : Side → List ℕ → Sent
own side = of side FromControl FromFilm

abbrev pub other : Side → List ℕ → Sent
other side = of side FromFilm FromControl

-- with a row of n, the most of the other queue that go before a packet with k before it in its own; a row above four is as one of four
abbrev pub most : Side → ℕ → ℕ → ℕ
most side n k = of side ((min n 4 + k) / 4) (4 * (k + 1) - min n 4)

-- a packet goes, as one of the queues sees it
data Way (side : Side) (queue : List (List ℕ)) (n : ℕ) (s : Sent) (queue' : List (List ℕ)) (n' : ℕ) : Type 0 where
  own-goes : (p : List ℕ) → queue ≡ p ∷ queue' → s ≡ own side p → ((k : ℕ) → most side n' k ≤ most side n (suc k)) → Way side queue n s queue' n'
  other_goes : (p : List ℕ) → queue ≡ queue' → s ≡ other side p → (queue ≢ [] → (k : ℕ) → most side n' k < most side n k) → Way side queue n s queue' n'

way : (side : Side) {cs fs cs' fs' : List (List ℕ)} {n n' : ℕ} {s : Sent} → Goes cs fs n s cs' fs' n' → Way side (of side cs fs) n s (of side cs' fs') n'
way Control (control-first {p} h) = own-goes p refl refl (λ k. omega arith)
way Control (film-after_four {f = f} h) = other_goes f refl refl (λ some k. omega arith)
way Control (control-alone {p}) = own-goes p refl refl (λ k. omega arith)
way Control (film-alone {f}) = other_goes f refl refl (λ some. absurd (some refl))
way Film (control-first {p} h) = other_goes p refl refl (λ some k. omega arith)
way Film (film-after_four {f = f} h) = own-goes f refl refl (λ k. omega arith)
way Film (control-alone {p}) = other_goes p refl refl (λ some. absurd (some refl))
way Film (film-alone {f}) = own-goes f refl refl (λ k. omega arith)

module _ (side : Side) (p : List ℕ) where
  abbrev Far : (queue : List (List ℕ)) (n : ℕ) → List Sent → Type 0
  Far queue n sent = (ahead rest : List (List ℕ)) (m : ℕ) → queue ≡ ahead ++ p ∷ rest → most side n (length ahead) ≤ m → Behind (own side) (other side) p ahead m sent

  nearer : {queue queue' : List (List ℕ)} {n n' : ℕ} {s : Sent} {sent : List Sent} → Way side queue n s queue' n' → Far queue' n' sent → Far queue n (s ∷ sent)
  nearer {s = s} (own-goes q front is near) far [] rest m e h =
      let it : s ≡ own side p = cc in
      rw it comes
  nearer {queue' = queue'} {s = s} (own-goes q front is near) far (r ∷ ahead) rest m e h =
      let before : s ≡ own side r = cc in
      let left : queue' ≡ ahead ++ p ∷ rest = cc in
      rw before (own_first (far ahead rest m left (omega (arith, near (length ahead)))))
  nearer {queue} {queue'} {n} {n'} {s} {sent} (other_goes q same is near) far ahead rest m e h = go m h (near (λ z. omega (arith, simp length-append at (ap length (sym e ∙ z)))) (length ahead))
    where
      go : (m : ℕ) → most side n (length ahead) ≤ m → most side n' (length ahead) < most side n (length ahead) → Behind (own side) (other side) p ahead m (s ∷ sent)
      go zero h less = absurd (omega arith)
      go (suc m) h less = rw is (other-first (far ahead rest m (sym same ∙ e) (omega arith)))

  pub behind : {cs fs a b cs' fs' : List (List ℕ)} {n : ℕ} {sent : List Sent} → Turns cs fs n a b sent cs' fs' → Far (of side cs fs) n sent
  behind over ahead rest m e h = yet_to_come
  behind (adds {cs} {fs} a b row t) ahead rest m e h =
      let same : of side (cs ++ a) (fs ++ b) ≡ ahead ++ p ∷ (rest ++ of side a b) = behind_added side ∙ rw e (append_assoc ahead (p ∷ rest) (of side a b)) in
      behind t ahead (rest ++ of side a b) m same (rw row h)
    where
      behind_added : (side : Side) → of side (cs ++ a) (fs ++ b) ≡ of side cs fs ++ of side a b
      behind_added Control = refl
      behind_added Film = refl
  behind (takes g t) ahead rest m e h = nearer (way side g) (λ ahead rest m e h. behind t ahead rest m e h) ahead rest m e h

-- at the front of its queue
pub within : {own other : List ℕ → Sent} {p : List ℕ} {n : ℕ} {sent : List Sent} → Behind own other p [] n sent → Within n other (own p) sent
within yet_to_come = not_yet [] (omega arith)
within (comes {sent = sent}) = soon [] sent (omega arith)
within (other-first {q} b) = later q (within b)
  where
    later : {other : List ℕ → Sent} {p : Sent} {n : ℕ} {sent : List Sent} (q : List ℕ) → Within n other p sent → Within (suc n) other p (other q ∷ sent)
    later q (soon before behind h) = soon (q ∷ before) behind (omega arith)
    later q (not_yet before h) = not_yet (q ∷ before) (omega arith)
