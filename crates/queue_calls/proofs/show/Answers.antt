-- `queue_calls::show` meets its contract.
use mathlib.Core.Path.{sym, ◌∙◌, ap}
use mathlib.Core.Bool.{true, false}
use mathlib.Core.List.{List}
use Prim.Native.Nat.{ℕ}
use Rattle.queues.specs.Packets.{front}
use Rattle.queues.specs.Calls.{shown_at}
use Rattle.queue_calls.proofs.Laws.Shown.{next_is}
use Rattle.queue_calls.proofs.show.Goals as goal

pub returns-then-film_goes : goal.returns-then-film_goes
returns-then-film_goes c =
    let args = c.args in
    c.shown_in.ensures
    ∙ ap (λ (l : List ℕ). shown_at true (front l)) c.part.ensures
    ∙ next_is args.state args.control.now args.film.now true c.in_ok-check_next.ensures (sym c.film_goes.ensures ∙ c.if-film_goes.true)

pub returns : goal.returns
returns c =
    let args = c.args in
    c.shown_in-2.ensures
    ∙ ap (λ (l : List ℕ). shown_at false (front l)) c.part-2.ensures
    ∙ next_is args.state args.control.now args.film.now false c.in_ok-check_next.ensures (sym c.film_goes.ensures ∙ c.if-film_goes.false)
