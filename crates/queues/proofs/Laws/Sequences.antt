-- The laws over every sequence of calls: what one call does to the packets that wait, and from this what calls one after the other do.
use Prim.Native.Nat.{ℕ, zero, suc, ◌+◌, ◌<◌}
use native.Mathlib.Omega.{arith}
use mathlib.Core.Path.{◌≡◌, refl}
use mathlib.Core.Logic.{◌⊎◌, inl, inr, ◌≢◌}
use mathlib.Core.Bool.{Bool, true, false}
use mathlib.Core.List.{List, [], ◌∷◌, ◌++◌, append-nil}
use lib.Dec.{eqb}
use lib.ListN.{length}
use borrow.Author.Tests.{eqb-true, eqb-false, ne_eqb}
use Rattle.queues.specs.Channel.{Channel, Call, Take, Show, AddToControl, AddToFilm, Sent, number, after, sends, adds_control, adds_film, played, each, from_control, from_film, Waiting}
use Rattle.queues.specs.Order.{QueuesInOrder, InOrder, TakesNext, FirstInFirstOut, taking, TakenUntilEmpty, FilmWaits, ControlWaits}
use Rattle.queues.specs.Rows.{ControlGoesBehind, FilmGoesBehind}
use Rattle.queues.proofs.Laws.Order.{queues_in_order}
use Rattle.queues.proofs.Laws.Turns.{Turns, over, adds, takes, each_once, fewer}
use Rattle.queues.proofs.Laws.Waits.{Control, Film, behind, within}

-- one call: what it adds and sends goes before what later calls do
record Turn (c : Channel) (cs fs : List (List ℕ)) (x : Call) : Type 0 where
  cs' : List (List ℕ)
  fs' : List (List ℕ)
  waiting : Waiting (after c x) cs' fs'
  turn : {a b left_control left_film : List (List ℕ)} {sent : List Sent} → Turns cs' fs' (after c x).state.row a b sent left_control left_film →
      Turns cs fs c.state.row (adds_control c x ++ a) (adds_film c x ++ b) (sends c x ++ sent) left_control left_film

record Played (c : Channel) (cs fs : List (List ℕ)) (xs : List Call) : Type 0 where
  left_control : List (List ℕ)
  left_film : List (List ℕ)
  waiting : Waiting (played c xs) left_control left_film
  turns : Turns cs fs c.state.row (each adds_control c xs) (each adds_film c xs) (each sends c xs) left_control left_film

some_wait : (cs fs : List (List ℕ)) → 0 < length cs + length fs → (cs ≢ []) ⊎ (fs ≢ [])
some_wait (p ∷ cs) fs h = inl (λ e. let z : ◌≡◌ {A = ℕ} 0 1 = cc in omega arith)
some_wait [] (p ∷ fs) h = inr (λ e. let z : ◌≡◌ {A = ℕ} 0 1 = cc in omega arith)
some_wait [] [] h = absurd (omega arith)

none_added : (n : ℕ) (c : Channel) → (each adds_control c (taking n) ≡ []) × (each adds_film c (taking n) ≡ [])
unfolding taking each
none_added zero c = (refl, refl)
none_added (suc n) c = none_added n (after c Take)

all-sent : (l added sent left : List (List ℕ)) → l ++ added ≡ sent ++ left → added ≡ [] → left ≡ [] → sent ≡ l
all-sent l added sent left e noneAdded noneLeft = cc (append-nil l, append-nil sent)

module _ (c : Channel) (cs fs : List (List ℕ)) (w : Waiting c cs fs) where
  here : InOrder c cs fs
  unfolding QueuesInOrder
  here = queues_in_order c cs fs w

  none-goes : (x : Call) → Waiting (after c x) (cs ++ adds_control c x) (fs ++ adds_film c x) → (after c x).state.row ≡ c.state.row → sends c x ≡ [] → Turn c cs fs x
  none-goes x still row none = record { cs' = cs ++ adds_control c x; fs' = fs ++ adds_film c x; waiting = still; turn = λ t. rw none (adds (adds_control c x) (adds_film c x) row t) }

  none_added_or-sent : (x : Call) → after c x ≡ c → adds_control c x ≡ [] → adds_film c x ≡ [] → sends c x ≡ [] → Turn c cs fs x
  none_added_or-sent x same noControl noFilm none = none-goes x (rw (same, noControl, noFilm, append-nil cs, append-nil fs) w) (rw same) none

  unless-refused : (x : Call) → (number c x ≢ 0 → (adds_control c x ≡ []) × (adds_film c x ≡ [])) → (number c x ≡ 0 → Turn c cs fs x) → Turn c cs fs x
  unless-refused x refused good = go (eqb (number c x) 0) refl
    where
      go : (t : Bool) → eqb (number c x) 0 ≡ t → Turn c cs fs x
      go true e = good (eqb-true (number c x) 0 e)
      go false e =
          let not : number c x ≢ 0 = eqb-false (number c x) 0 e in
          none_added_or-sent x (here.refuses x not).0 (refused not).0 (refused not).1 (here.refuses x not).1

  one_taken : 0 < length cs + length fs → (number c Take ≡ 0) × TakesNext c cs fs
  one_taken some = here.takes (some_wait cs fs some)

  one-goes : 0 < length cs + length fs → Turn c cs fs Take
  one-goes some =
      let next = one_taken some in
      record { cs' = next.1.cs'; fs' = next.1.fs'; waiting = next.1.waiting; turn = λ t. rw next.0 (takes next.1.goes t) }

one-call : (c : Channel) (cs fs : List (List ℕ)) → Waiting c cs fs → (x : Call) → Turn c cs fs x
one-call c cs fs w (AddToControl p) = unless-refused c cs fs w (AddToControl p) (λ not. (rw (ne_eqb (number c (AddToControl p)) 0 not), refl))
    (λ e. none-goes c cs fs w (AddToControl p) (rw (e, append-nil fs) (((here c cs fs w).adds p).control e)) ((here c cs fs w).adds p).control_row refl)
one-call c cs fs w (AddToFilm p) = unless-refused c cs fs w (AddToFilm p) (λ not. (refl, rw (ne_eqb (number c (AddToFilm p)) 0 not)))
    (λ e. none-goes c cs fs w (AddToFilm p) (rw (e, append-nil cs) (((here c cs fs w).adds p).film e)) ((here c cs fs w).adds p).film_row refl)
one-call c cs fs w Show = none_added_or-sent c cs fs w Show (here c cs fs w).shows refl refl refl
one-call c (p ∷ cs) fs w Take = one-goes c (p ∷ cs) fs w (omega arith)
one-call c [] (p ∷ fs) w Take = one-goes c [] (p ∷ fs) w (omega arith)
one-call c [] [] w Take =
    let none : number c Take ≡ 25 = (here c [] [] w).none.1 (refl, refl) in
    unless-refused c [] [] w Take (λ not. (refl, refl)) (λ e. absurd (omega arith))

calls : (c : Channel) (cs fs : List (List ℕ)) → Waiting c cs fs → (xs : List Call) → Played c cs fs xs
unfolding played each
calls c cs fs w [] = record { left_control = cs; left_film = fs; waiting = w; turns = over }
calls c cs fs w (x ∷ xs) =
    let one = one-call c cs fs w x in
    let rest = calls (after c x) one.cs' one.fs' one.waiting xs in
    record { left_control = rest.left_control; left_film = rest.left_film; waiting = rest.waiting; turns = one.turn rest.turns }

pub first_in_first_out : FirstInFirstOut
unfolding FirstInFirstOut
first_in_first_out c cs fs w xs =
    let all = calls c cs fs w xs in
    let once = each_once all.turns in
    record { left_control = all.left_control; left_film = all.left_film; waiting = all.waiting; control = once.control; film = once.film }

emptied : (n : ℕ) (c : Channel) (cs fs : List (List ℕ)) → Waiting c cs fs → length cs + length fs ≡ n → number (played c (taking n)) Take ≡ 25
unfolding taking played
emptied zero c [] [] w e = (here c [] [] w).none.1 (refl, refl)
emptied zero c (p ∷ cs) fs w e = absurd (omega arith)
emptied zero c [] (p ∷ fs) w e = absurd (omega arith)
emptied (suc n) c cs fs w e =
    let next = one_taken c cs fs w (omega arith) in
    emptied n (after c Take) next.1.cs' next.1.fs' next.1.waiting (omega (arith, fewer next.1.goes))

pub taken_until_empty : TakenUntilEmpty
unfolding TakenUntilEmpty FirstInFirstOut
taken_until_empty c cs fs w =
    let n = length cs + length fs in
    let xs = taking n in
    let all = first_in_first_out c cs fs w xs in
    let refused = emptied n c cs fs w refl in
    let noneLeft = (here (played c xs) all.left_control all.left_film all.waiting).none.0 refused in
    record {
      control = all-sent cs (each adds_control c xs) (from_control (each sends c xs)) all.left_control all.control (none_added n c).0 noneLeft.0;
      film = all-sent fs (each adds_film c xs) (from_film (each sends c xs)) all.left_film all.film (none_added n c).1 noneLeft.1;
      refused = refused;
    }

pub control-goes-behind : ControlGoesBehind
unfolding ControlGoesBehind
control-goes-behind c ahead cs fs p w xs = behind Control p (calls c (ahead ++ p ∷ cs) fs w xs).turns ahead cs _ refl (omega arith)

pub film_goes-behind : FilmGoesBehind
unfolding FilmGoesBehind
film_goes-behind c ahead cs fs p w xs = behind Film p (calls c cs (ahead ++ p ∷ fs) w xs).turns ahead fs _ refl (omega arith)

pub control_waits : ControlWaits
unfolding ControlWaits
control_waits c cs fs p w xs = within (behind Control p (calls c (p ∷ cs) fs w xs).turns [] cs _ refl (omega arith))

pub film_waits : FilmWaits
unfolding FilmWaits
film_waits c cs fs p w xs = within (behind Film p (calls c cs (p ∷ fs) w xs).turns [] fs _ refl (omega arith))
