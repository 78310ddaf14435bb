-- What adding answers, by the number that the rules give.
use Prim.Native.Nat.{ℕ, ◌+◌, ◌≤◌}
use native.Mathlib.Omega.{arith}
use mathlib.Core.Path.{◌≡◌, sym}
use mathlib.Core.List.{List}
use lib.ListN.{length}
use borrow.Author.Tests.{not-false, ltb-false, ne_eqb}
use Rattle.replies.specs.declared.Refusal.{Refusal}
use Rattle.replies.specs.Numbers.{number_of}
use Rattle.replies.specs.Rules.{refusal}
use Rattle.replies.proofs.Laws.Numbers.{number-not_0}
use Rattle.replies.proofs.Laws.Refusals.{done-exactly}
use Rattle.queues.specs.Packets.{packed, good}
use Rattle.queues.specs.declared.State.{State}
use Rattle.queues.specs.Calls.{add_rules, laid, add, add_to_control, add_to_film}
use Rattle.queue_calls.proofs.Laws.Good.{good-fits}

module _ (held : ℕ) (queue p : List ℕ) where
  pub not_added : (e : Refusal) → number_of e ≡ refusal (add_rules held queue p) → record { number = number_of e; held = held; bytes = queue } ≡ add held queue p
  unfolding add
  not_added e given = rw (← given, ne_eqb (number_of e) 0 (number-not_0 e))

  pub is_added : 0 ≡ refusal (add_rules held queue p) → record { number = 0; held = held + length (packed p); bytes = laid held queue p } ≡ add held queue p
  unfolding add
  is_added none = rw (← none)

  pub added_fits : 0 ≡ refusal (add_rules held queue p) → (held + length (packed p) ≤ 4096) × (length queue ≡ 4096)
  added_fits given =
      let none = (done-exactly (add_rules held queue p) (omega arith)).0 (sym given) in
      (ltb-false 4096 (held + length (packed p)) none.1.1.0, (good-fits held queue (not-false (good held queue) none.0)).size)

-- and to one of the two, by the number and the bytes held
module _ (s : State) (queue p : List ℕ) (n held : ℕ) where
  pub to_control : n ≡ (add s.control queue p).number → held ≡ (add s.control queue p).held → record { number = n; state = record { control = held; film = s.film; row = s.row } } ≡ add_to_control s queue p
  unfolding add_to_control
  to_control e f = λ i. record { number = e i; state = record { control = f i; film = s.film; row = s.row } }

  pub to_film : n ≡ (add s.film queue p).number → held ≡ (add s.film queue p).held → record { number = n; state = record { control = s.control; film = held; row = s.row } } ≡ add_to_film s queue p
  unfolding add_to_film
  to_film e f = λ i. record { number = e i; state = record { control = s.control; film = f i; row = s.row } }
