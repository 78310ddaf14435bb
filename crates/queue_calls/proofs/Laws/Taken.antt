-- What taking answers and leaves, by what was shown.
use Rattle.std.specs.Prelude.{Ok, Err}
use Prim.Native.Nat.{ℕ, ◌+◌, ◌-◌}
use mathlib.Core.Path.{◌≡◌, ◌∙◌, ap}
use mathlib.Core.List.{List}
use borrow.Author.Tests.{ne_eqb}
use Rattle.replies.specs.declared.Refusal.{Refusal}
use Rattle.replies.specs.Numbers.{number_of}
use Rattle.replies.proofs.Laws.Numbers.{number-not_0}
use Rattle.queues.specs.declared.NextPacket.{NextPacket}
use Rattle.queues.specs.declared.Queue.TheVariants.{Control, Film}
use Rattle.queues.specs.declared.State.{State}
use Rattle.queues.specs.Replies.{Shown, shown_of}
use Rattle.queues.specs.Calls.{show, moved_down, row_after, take_shown, take_next}

module _ (s : State) (control film : List ℕ) where
  by_shown : (d : Shown) → d ≡ show s control film → take_shown d s control film ≡ take_next s control film
  unfolding take_next
  by_shown d e = ap (λ (d : Shown). take_shown d s control film) e

  pub not_taken : (e : Refusal) → shown_of (Err e) ≡ show s control film → record { reply = record { number = number_of e; state = s }; control = control; film = film } ≡ take_next s control film
  not_taken e shown = step ∙ by_shown (shown_of (Err e)) shown
    where
      step : record { reply = record { number = number_of e; state = s }; control = control; film = film } ≡ take_shown (shown_of (Err e)) s control film
      step = rw (ne_eqb (number_of e) 0 (number-not_0 e))

  module _ (next : NextPacket) (shown : shown_of (Ok next) ≡ show s control film) where
    abbrev n : ℕ
    n = next.at + next.length

    pub control_taken : next.queue ≡ Control →
        record { reply = record { number = 0; state = record { control = s.control - n; film = s.film; row = row_after s } }; control = moved_down n s.control control; film = film } ≡ take_next s control film
    control_taken e = step ∙ by_shown (shown_of (Ok next)) shown
      where
        step : record { reply = record { number = 0; state = record { control = s.control - n; film = s.film; row = row_after s } }; control = moved_down n s.control control; film = film } ≡ take_shown (shown_of (Ok next)) s control film
        step = rw e

    pub film_taken : next.queue ≡ Film →
        record { reply = record { number = 0; state = record { control = s.control; film = s.film - n; row = row_after s } }; control = control; film = moved_down n s.film film } ≡ take_next s control film
    film_taken e = step ∙ by_shown (shown_of (Ok next)) shown
      where
        step : record { reply = record { number = 0; state = record { control = s.control; film = s.film - n; row = row_after s } }; control = control; film = moved_down n s.film film } ≡ take_shown (shown_of (Ok next)) s control film
        step = rw e
