-- What showing answers, by the tests of the code; and that what it shows lies in its queue.
use Rattle.std.specs.Prelude.{Option, Some, None, Ok}
use Prim.Native.Nat.{ℕ, zero, suc, ◌+◌, ◌≤◌}
use native.Mathlib.Omega.{arith}
use mathlib.Core.Path.{◌≡◌, refl, sym, ap, subst}
use mathlib.Core.Logic.{◌≢◌}
use mathlib.Core.Bool.{Bool, true, false, cond, not, ◌&&◌, and-eq-true_iff}
use mathlib.Core.List.{List, []}
use lib.Dec.{eqb}
use lib.ListN.{length, take, length-take}
use borrow.Author.Tests.{ne_eqb}
use Rattle.replies.specs.Rules.{◌if◌, ◌then◌, refusal}
use Rattle.queues.specs.declared.State.{State}
use Rattle.queues.specs.declared.NextPacket.{NextPacket}
use Rattle.queues.specs.declared.Queue.{Queue}
use Rattle.queues.specs.Replies.{Shown, is_film, shown_of}
use Rattle.queues.specs.Packets.{front, good}
use Rattle.queues.specs.Calls.{next_rules, film_goes, shown_at, show}
use Rattle.queues.proofs.Laws.Packets.{front-within}
use Rattle.queue_calls.proofs.Laws.Good.{Fitting, good-fits}

module _ (s : State) (control film : List ℕ) where
  pub refused : (n : ℕ) → n ≡ refusal (next_rules s control film) → n ≢ 0 → record { number = n; film = false; at = 0; length = 0 } ≡ show s control film
  unfolding show
  refused n e h = rw (← e, ne_eqb n 0 h)

  pub next_is : (goes : Bool) → 0 ≡ refusal (next_rules s control film) → film_goes s ≡ goes → shown_at goes (front (cond goes (take s.film film) (take s.control control))) ≡ show s control film
  unfolding show
  next_is goes e g = rw (← e, g)

-- What a packet that is shown lies in: the bytes held in its queue, and these in the queue, which is of its size
pub record Lies (d : Shown) (s : State) (control film : List ℕ) : Type 0 where
  pub held_within : d.at + d.length ≤ cond d.film s.film s.control
  pub fits : Fitting (cond d.film s.film s.control) (cond d.film film control)

both_good : (s : State) (control film : List ℕ) → refusal (next_rules s control film) ≡ 0 → (good s.control control ≡ true) × (good s.film film ≡ true)
both_good s control film e = go (good s.control control && good s.film film) refl e
  where
    go : (b : Bool) → (good s.control control && good s.film film) ≡ b → refusal (37 if not b then 25 if (eqb s.control 0 && eqb s.film 0) then []) ≡ 0
        → (good s.control control ≡ true) × (good s.film film ≡ true)
    go true p q = simp and-eq-true_iff at p
    go false p q = absurd (let z : ◌≡◌ {A = ℕ} 37 0 = q in omega arith)

in_held : (held : ℕ) (queue : List ℕ) (r : Option (ℕ × ℕ)) (film : Bool) → front (take held queue) ≡ r → (shown_at film r).at + (shown_at film r).length ≤ held
in_held held queue (Some (n, k)) film e = omega (arith, (front-within (take held queue) n k e).1, length-take held queue)
in_held held queue None film e = omega arith

pub lies : (s : State) (control film : List ℕ) → (show s control film).number ≡ 0 → Lies (show s control film) s control film
lies s control film e = go (refusal (next_rules s control film)) refl
  where
    there : (goes : Bool) (r : Option (ℕ × ℕ)) → refusal (next_rules s control film) ≡ 0 → front (cond goes (take s.film film) (take s.control control)) ≡ r → Lies (shown_at goes r) s control film
    there true (Some (n, k)) z p = record { held_within = in_held s.film film (Some (n, k)) true p; fits = good-fits s.film film (both_good s control film z).1 }
    there true None z p = record { held_within = in_held s.film film None true p; fits = good-fits s.film film (both_good s control film z).1 }
    there false (Some (n, k)) z p = record { held_within = in_held s.control control (Some (n, k)) false p; fits = good-fits s.control control (both_good s control film z).0 }
    there false None z p = record { held_within = in_held s.control control None false p; fits = good-fits s.control control (both_good s control film z).0 }

    go : (n : ℕ) → refusal (next_rules s control film) ≡ n → Lies (show s control film) s control film
    go zero z = subst (λ (d : Shown). Lies d s control film) (next_is s control film (film_goes s) (sym z) refl) (there (film_goes s) _ z refl)
    go (suc n) z =
        let not_done : (show s control film).number ≡ suc n = ap (λ (d : Shown). d.number) (sym (refused s control film (suc n) (sym z) (λ w. omega arith))) in
        absurd (omega arith)

-- the same of the next packet that showing answers, by the queue that it names
pub record InQueue (next : NextPacket) (held : ℕ) (queue : List ℕ) : Type 0 where
  pub held_within : next.at + next.length ≤ held
  pub few : held ≤ 4096
  pub size : length queue ≡ 4096

pub in_queue : (s : State) (control film : List ℕ) (next : NextPacket) (queue : Queue) → shown_of (Ok next) ≡ show s control film → next.queue ≡ queue
    → InQueue next (cond (is_film queue) s.film s.control) (cond (is_film queue) film control)
in_queue s control film next queue e f =
    let l = subst (λ (d : Shown). Lies d s control film) (sym e) (lies s control film (ap (λ (d : Shown). d.number) (sym e))) in
    subst (λ (q : Queue). InQueue next (cond (is_film q) s.film s.control) (cond (is_film q) film control)) f
    (record { held_within = l.held_within; few = l.fits.few; size = l.fits.size })
