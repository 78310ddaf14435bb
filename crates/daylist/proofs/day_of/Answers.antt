-- `daylist::day_of` meets its contract.
use Prim.Native.Nat.{◌/◌}
use mathlib.Core.Path.{sym, ◌∙◌, ap}
use lib.ListN.{length}
use Rattle.replay.specs.Day.{Day, all_numbers, in_front}
use Rattle.daylist.proofs.Laws.Listing.{dispatched_day, box_day}
use Rattle.daylist.proofs.day_of.Goals as goal

pub returns-then-dispatched : goal.returns-then-dispatched
returns-then-dispatched c =
    let args = c.args in
    let lines = args.lines.now in
    let day = c.day in
    let same = sym (dispatched_day args.dispatched (length lines / 4) args.input.now _ args.out.now c.if-dispatched.true c.part.ensures) in
    (day.ensures.0 ∙ ap (λ (d : Day). length d.lines) same, day.ensures.2 ∙ ap (λ (d : Day). in_front (all_numbers d.lines) lines) same)

pub returns : goal.returns
returns c =
    let args = c.args in
    let lines = args.lines.now in
    let day = c.day-2 in
    let same = sym (box_day args.dispatched (length lines / 4) args.input.now _ args.out.now c.if-dispatched.false c.part-2.ensures) in
    (day.ensures.0 ∙ ap (λ (d : Day). length d.lines) same, day.ensures.2 ∙ ap (λ (d : Day). in_front (all_numbers d.lines) lines) same)
