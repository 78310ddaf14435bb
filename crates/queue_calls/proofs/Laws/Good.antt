-- What a queue that adding can leave has: its size, and no more held than that.
use Prim.Native.Nat.{ℕ, ◌≤◌}
use mathlib.Core.Path.{◌≡◌}
use mathlib.Core.Bool.{true, and-eq-true_iff}
use mathlib.Core.List.{List}
use lib.ListN.{length}
use borrow.Author.Tests.{eqb-true, leb-true}
use Rattle.queues.specs.Packets.{good}

pub record Fitting (held : ℕ) (queue : List ℕ) : Type 0 where
  pub size : length queue ≡ 4096
  pub few : held ≤ 4096

pub good-fits : (held : ℕ) (queue : List ℕ) → good held queue ≡ true → Fitting held queue
unfolding good
good-fits held queue e =
    let t = simp and-eq-true_iff at e in
    record { size = eqb-true (length queue) 4096 t.0.0; few = leb-true held 4096 t.0.1 }
