-- How the code's answers are read tells any two apart: so what a call promises of its answer, read so, determines it.
use Rattle.std.specs.Prelude.{◌≡◌, refl, Result, Ok, Err}
use mathlib.Core.Path.{sym, ◌∙◌, ap}
use Rattle.replies.specs.declared.Refusal.{Refusal}
use Rattle.replies.specs.Promise.{Determines}
use Rattle.replies.proofs.Laws.Numbers.{number-not_0, number_injective}
use Rattle.queues.specs.declared.Queue.{Queue}
use Rattle.queues.specs.declared.Queue.TheVariants.{Control, Film}
use Rattle.queues.specs.declared.NextPacket.{NextPacket}
use Rattle.queues.specs.declared.State.{State}
use Rattle.queues.specs.Replies.{Reply, reply_of, Shown, is_film, shown_of}

reply_tells : (s : State) (a b : Result State Refusal) → reply_of s a ≡ reply_of s b → a ≡ b
reply_tells s (Ok x) (Ok y) e = ap (λ (r : Reply). Ok r.state) e
reply_tells s (Ok x) (Err f) e = absurd (number-not_0 f (sym (ap (λ (r : Reply). r.number) e)))
reply_tells s (Err d) (Ok y) e = absurd (number-not_0 d (ap (λ (r : Reply). r.number) e))
reply_tells s (Err d) (Err f) e = ap Err (number_injective d f (ap (λ (r : Reply). r.number) e))

queue_told : (a b : Queue) → is_film a ≡ is_film b → a ≡ b
queue_told Control Control e = refl
queue_told Control Film e = cc
queue_told Film Control e = cc
queue_told Film Film e = refl

shown_tells : (a b : Result NextPacket Refusal) → shown_of a ≡ shown_of b → a ≡ b
shown_tells (Ok x) (Ok y) e =
    let queue = queue_told x.queue y.queue (ap (λ (d : Shown). d.film) e) in
    (λ i. Ok (record { queue = queue i; at = (e i).at; length = (e i).length }))
shown_tells (Ok x) (Err f) e = absurd (number-not_0 f (sym (ap (λ (d : Shown). d.number) e)))
shown_tells (Err d) (Ok y) e = absurd (number-not_0 d (ap (λ (d : Shown). d.number) e))
shown_tells (Err d) (Err f) e = ap Err (number_injective d f (ap (λ (d : Shown). d.number) e))

pub reply_of_determined : (s : State) (q : Reply) → Determines (λ (r : Result State Refusal). reply_of s r ≡ q)
reply_of_determined s q a b e f = reply_tells s a b (e ∙ sym f)

pub shown_of_determined : (d : Shown) → Determines (λ (r : Result NextPacket Refusal). shown_of r ≡ d)
shown_of_determined d a b e f = shown_tells a b (e ∙ sym f)
