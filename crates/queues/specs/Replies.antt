-- What the calls on two queues answer, in the rules' numbers; and how the code's answers are read so.
use Rattle.std.specs.Prelude.{ℕ, Bool, true, false, Result, Ok, Err}
use Rattle.replies.specs.declared.Refusal.{Refusal}
use Rattle.replies.specs.Numbers.{number_of}
use Rattle.queues.specs.declared.Queue.{Queue}
use Rattle.queues.specs.declared.Queue.TheVariants.{Control, Film}
use Rattle.queues.specs.declared.NextPacket.{NextPacket}
use Rattle.queues.specs.declared.State.{State}

-- of adding and taking: the number, 0 where the call is done, and the state after it
pub record Reply : Type 0 where
  pub number : ℕ
  pub state : State

-- a refusal leaves the state as it was
abbrev pub reply_of : State → Result State Refusal → Reply
reply_of before (Ok after) = record { number = 0; state = after }
reply_of before (Err refusal) = record { number = number_of refusal; state = before }

-- of showing: the number, whether film's queue holds the next packet (else it is control's), and where in it the packet stands
pub record Shown : Type 0 where
  pub number : ℕ
  pub film : Bool
  pub at : ℕ
  pub length : ℕ

abbrev pub is_film : Queue → Bool
is_film Control = false
is_film Film = true

abbrev pub shown_of : Result NextPacket Refusal → Shown
shown_of (Ok next) = record { number = 0; film = is_film next.queue; at = next.at; length = next.length }
shown_of (Err refusal) = record { number = number_of refusal; film = false; at = 0; length = 0 }
