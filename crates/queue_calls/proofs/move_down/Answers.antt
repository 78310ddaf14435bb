-- `queue_calls::move_down` meets its contract.
use Prim.Native.Nat.{ℕ, ◌-◌, ◌≤◌}
use native.Mathlib.Omega.{arith}
use mathlib.Core.Path.{◌≡◌, ◌∙◌, ap}
use mathlib.Core.List.{List, ◌++◌}
use lib.ListN.{length, take, drop}
use Rattle.frames.proofs.Laws.Put.{copied, kept}
use Rattle.queue_calls.proofs.Laws.Moved.{held-behind, behind-length}
use Rattle.queue_calls.proofs.move_down.Goals as goal

pub returns : goal.returns
returns c =
    let args = c.args in
    let pre = c.requires in
    let queue = args.queue.now in
    let stay = take (args.held - args.n) (drop args.n queue) in
    let within : args.held ≤ length queue = omega arith in
    let count : length stay ≡ args.held - args.n = behind-length args.n args.held queue within in
    -- what the array holds is the bytes that stay
    let here : take c.copy-rest.result c.copy-rest.new.to ≡ stay = kept stay _ _ 4096 _ (omega arith) c.copy-rest.ensures.0 c.copy-rest.ensures.1 in
    let written : c.copy.new.to ≡ stay ++ drop (length stay) queue = (copied stay queue _ _ (omega arith) (rw here at c.copy.ensures.0) (rw here at c.copy.ensures.1)).1 in
    written ∙ rw count (ap (λ (l : List ℕ). l ++ drop (args.held - args.n) queue) (held-behind args.n args.held queue pre.0 within))
