-- Calls one after the other as the lists of packets see them, and that each packet is then sent once or left.
use Prim.Native.Nat.{ℕ, suc, ◌+◌}
use native.Mathlib.Omega.{arith}
use mathlib.Core.Path.{◌≡◌, sym, ◌∙◌, ap}
use mathlib.Core.List.{List, [], ◌∷◌, ◌++◌, append-nil, append_assoc}
use lib.ListN.{length}
use Rattle.queues.specs.Channel.{Sent, FromControl, FromFilm, from_control, from_film}
use Rattle.queues.specs.Order.{Goes, control-first, film-after_four, control-alone, film-alone}

-- with cs and fs waiting and a row of n, these are added and these sent, and these are left; a call that is refused adds none
pub data Turns : (cs fs : List (List ℕ)) (n : ℕ) (addedControl addedFilm : List (List ℕ)) → List Sent → (left_control left_film : List (List ℕ)) → Type 0 where
  over : {cs fs : List (List ℕ)} {n : ℕ} → Turns cs fs n [] [] [] cs fs
  adds : {cs fs cs' fs' a' b' : List (List ℕ)} {n n' : ℕ} {sent : List Sent} (a b : List (List ℕ)) → n' ≡ n →
      Turns (cs ++ a) (fs ++ b) n' a' b' sent cs' fs' → Turns cs fs n (a ++ a') (b ++ b') sent cs' fs'
  takes : {cs fs cs₁ fs₁ cs' fs' a b : List (List ℕ)} {n n₁ : ℕ} {s : Sent} {sent : List Sent} →
      Goes cs fs n s cs₁ fs₁ n₁ → Turns cs₁ fs₁ n₁ a b sent cs' fs' → Turns cs fs n a b (s ∷ sent) cs' fs'

-- the packets at first and those added are those sent and those left
pub record Once (cs fs a b : List (List ℕ)) (sent : List Sent) (cs' fs' : List (List ℕ)) : Type 0 where
  pub control : cs ++ a ≡ from_control sent ++ cs'
  pub film : fs ++ b ≡ from_film sent ++ fs'

module _ {cs fs cs' fs' a b : List (List ℕ)} {sent : List Sent} (rest : Once cs fs a b sent cs' fs') (p : List ℕ) where
  and-control : Once (p ∷ cs) fs a b (FromControl p ∷ sent) cs' fs'
  and-control = record { control = ap (λ (l : List (List ℕ)). p ∷ l) rest.control; film = rest.film }

  and-film : Once cs (p ∷ fs) a b (FromFilm p ∷ sent) cs' fs'
  and-film = record { control = rest.control; film = ap (λ (l : List (List ℕ)). p ∷ l) rest.film }

once_more : {cs fs cs₁ fs₁ cs' fs' a b : List (List ℕ)} {n n₁ : ℕ} {s : Sent} {sent : List Sent} →
    Goes cs fs n s cs₁ fs₁ n₁ → Once cs₁ fs₁ a b sent cs' fs' → Once cs fs a b (s ∷ sent) cs' fs'
once_more (control-first {p} h) rest = and-control rest p
once_more (film-after_four {f = f} h) rest = and-film rest f
once_more (control-alone {p}) rest = and-control rest p
once_more (film-alone {f}) rest = and-film rest f

pub each_once : {cs fs cs' fs' a b : List (List ℕ)} {n : ℕ} {sent : List Sent} → Turns cs fs n a b sent cs' fs' → Once cs fs a b sent cs' fs'
each_once (over {cs} {fs}) = record { control = append-nil cs; film = append-nil fs }
each_once (adds {cs} {fs} {a' = a'} {b'} a b row t) =
    let rest = each_once t in
    record { control = sym (append_assoc cs a a') ∙ rest.control; film = sym (append_assoc fs b b') ∙ rest.film }
each_once (takes g t) = once_more g (each_once t)

-- one waits less
pub fewer : {cs fs cs' fs' : List (List ℕ)} {n n' : ℕ} {s : Sent} → Goes cs fs n s cs' fs' n' → length cs + length fs ≡ suc (length cs' + length fs')
fewer (control-first h) = omega arith
fewer (film-after_four h) = omega arith
fewer control-alone = omega arith
fewer film-alone = omega arith
