-- A call over the lent slots of a table by value is the call on that table.
use Rattle.std.specs.Prelude.{ℕ, zero, suc, ◌-◌, ◌≤◌, ◌<◌, ◌≡◌, refl, Bool, true, false, leb, List, length, take, min}
use native.Mathlib.Omega.{arith}
use mathlib.Core.Path.{sym, ◌∙◌, ap}
use Rattle.std.proofs.lemmas.List.{take_all}
use borrow.Author.Tests.{le-ltb, leb-true, leb-false}
use Rattle.replies.specs.Rules.{refusal}
use Rattle.links.specs.declared.Head.{Head}
use Rattle.links.specs.declared.HeadReply.{HeadReply}
use Rattle.links.specs.declared.Slot.{Slot}
use Rattle.links.specs.declared.Table.{Table}
use Rattle.links.specs.Replies.{Reply, reply_of}
use Rattle.links.specs.Slots.{counted}
use Rattle.links.specs.Calls.{TableCall, enable, disable, set_area, set_own, rules, link_after, table_after, answer, reply}
use Rattle.links.specs.Run.{over, too_short, reply_over, Left}
use Rattle.links.proofs.Laws.Run.{as_every_table}
use Rattle.value_table.specs.Lent.{lent_head, replied}

module _ (t : Table) (all : length t.slots ≡ 64) where
  abbrev lent : Table
  lent = over (lent_head t) t.slots

  enough : too_short lent.max lent.slots ≡ false
  enough = le-ltb (length t.slots) (min t.max 65 - 1) (omega arith)

  -- the same slots count
  same_count : counted lent ≡ counted t
  same_count = go (leb t.max 65) refl
    where
      go : (small : Bool) → leb t.max 65 ≡ small → counted lent ≡ counted t
      go true e = let small : t.max ≤ 65 = leb-true t.max 65 e in ap (λ (n : ℕ). take (n - 1) t.slots) (omega (arith, small))
      go false e =
          let large : 65 < t.max = leb-false t.max 65 e in
          take_all (min t.max 65 - 1) t.slots (omega (arith, all, large)) ∙ sym (take_all (t.max - 1) t.slots (omega (arith, all, large)))

  -- the reply with the rest of the table
  abbrev with_rest : Reply → Reply
  with_rest q = record {
    number = q.number;
    link = q.link;
    table = record {
      own = q.table.own;
      max = t.max;
      tvl = t.tvl;
      dgvl = t.dgvl;
      area = q.table.area;
      slots = q.table.slots;
    };
  }

  by_number : (n : ℕ) (c : TableCall) → with_rest (answer n lent c) ≡ answer n t c
  unfolding link_after table_after
  by_number zero (enable s) = rw same_count refl
  by_number zero (disable i) = refl
  by_number zero (set_area a) = refl
  by_number zero (set_own m) = refl
  by_number (suc n) c = refl

  pub answered : (c : TableCall) (h : Head) (r : HeadReply) (left : List Slot) → h ≡ lent_head t → Left (reply_over (over h t.slots) c) r left
      → reply_of (replied (record { own = t.own; max = t.max; tvl = t.tvl; dgvl = t.dgvl; area = t.area; slots = left }) r) ≡ reply t c
  unfolding reply
  answered c h r left is e =
      ap with_rest (e ∙ ap (λ (k : Head). reply_over (over k t.slots) c) is ∙ as_every_table lent c enough)
      ∙ ap (λ (l : List Slot). with_rest (answer (refusal (rules l c)) lent c)) same_count
      ∙ by_number (refusal (rules (counted t) c)) c
