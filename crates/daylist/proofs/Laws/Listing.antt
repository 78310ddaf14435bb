-- What the program writes is the listing.
use Rattle.links.specs.declared.LinkIndex.{LinkIndex}
use Rattle.std.specs.Prelude.{None, Option, Some}
use Prim.Native.Nat.{ℕ, suc, ◌*◌, ◌/◌, ◌≤◌}
use native.Mathlib.Omega.{arith}
use mathlib.Core.Path.{◌≡◌, refl, sym, ◌∙◌, ap}
use mathlib.Core.Bool.{Bool, true, false}
use mathlib.Core.List.{List, [], ◌∷◌, ◌++◌}
use lib.ListN.{length, take, drop, replicate, length-append, length-replicate}
use lib.Seq.{take_at}
use borrow.Author.Tests.{leb-true, le-leb}
use Rattle.links.specs.Slots.{free}
use Rattle.replay.specs.declared.Line.{Line}
use Rattle.replay.specs.Day.{day, given, index_in, all_numbers, in_front}
use Rattle.replay.proofs.Laws.Numbers.{four_each}
use Rattle.replay.proofs.Laws.Days.{few-lines, few}
use Rattle.listing.specs.Text.{header, link_from, lines_from, joined, text_of}
use Rattle.listing.specs.Room.{written_of}
use Rattle.listing.proofs.Laws.Whole.{whole-text}
use Rattle.replay.specs.Over.{answer_over, day_over}
use Rattle.daylist.specs.Listing.{lent, day_as, day_into, lines_of, lines_text, listing, Prints}

link-back : (link : Option LinkIndex) → link_from (given link) (index_in link) ≡ link
unfolding link_from
link-back (Some index) = refl
link-back None = refl

text_of-numbers : (k : ℕ) (lines : List Line) → joined (lines_from k (all_numbers lines)) ≡ lines_text k lines
unfolding joined lines_from all_numbers lines_text
text_of-numbers k [] = refl
text_of-numbers k (l ∷ lines) = rw (link-back l.link, text_of-numbers (suc k) lines)

text_is : (dispatched : Bool) (input : List ℕ) → text_of (all_numbers (lines_of dispatched input)) ≡ listing dispatched input
unfolding text_of listing
text_is dispatched input = ap (λ (text : List ℕ). header ++ text) (text_of-numbers 1 (lines_of dispatched input))

pub prints : Prints
unfolding Prints written_of
prints dispatched input buffer =
    let ns = all_numbers (lines_of dispatched input) in
    let long : length (text_of ns) ≡ length (listing dispatched input) = ap length (text_is dispatched input) in
    record {
      told = (λ e. rw long at (leb-true (length (text_of ns)) (length buffer) e), λ h. le-leb (length (text_of ns)) (length buffer) (rw long h));
      text = λ h.
          let written = whole-text ns buffer (le-leb (length (text_of ns)) (length buffer) (rw long h)) in
          rw (written.0, written.1, text_is dispatched input) (take_at (listing dispatched input) (drop (length (listing dispatched input)) buffer) (length (listing dispatched input)) refl);
    }

-- no more lines than there is room for
few_as : (dispatched : Bool) (most : ℕ) (input buffer : List ℕ) → length (day_as dispatched most input buffer).lines ≤ most
unfolding day_as day_over
few_as true most input buffer = few-lines answer_over most _ _
few_as false most input buffer = few most _ buffer

-- the day, by the part of the input that is listed
pub dispatched_day : (d : Bool) (most : ℕ) (input part buffer : List ℕ) → d ≡ true → part ≡ take 262_144 input → day_as d most input buffer ≡ day_over (replicate 4092 free) most part buffer
unfolding day_as
dispatched_day d most input part buffer e f = ap (λ (b : Bool). day_as b most input buffer) e ∙ ap (λ (p : List ℕ). day_over (replicate 4092 free) most p buffer) (sym f)

pub box_day : (d : Bool) (most : ℕ) (input part buffer : List ℕ) → d ≡ false → part ≡ take 65_536 input → day_as d most input buffer ≡ day most part buffer
unfolding day_as
box_day d most input part buffer e f = ap (λ (b : Bool). day_as b most input buffer) e ∙ ap (λ (p : List ℕ). day most p buffer) (sym f)

-- what a day's lines, stored in a run with room for all of them, leave there
module _ (dispatched : Bool) (input run : List ℕ) (count : ℕ) where
  abbrev lines : List Line
  lines = (day_into dispatched (replicate 262_144 0) input lent).lines

  all_lines : lines ≡ lines_of dispatched input
  unfolding lines_of
  all_lines = ap (λ (n : ℕ). (day_as dispatched (n / 4) input lent).lines) (length-replicate {A = ℕ} 262_144 0)

  module _ (f : count ≡ length lines) where
    pub how_many : count ≡ length (lines_of dispatched input)
    how_many = f ∙ ap length all_lines

    pub few-listed : count ≤ 65_536
    unfolding lines_of
    few-listed = rw (f, all_lines) (few_as dispatched 65_536 input lent)

    pub within : run ≡ in_front (all_numbers lines) (replicate 262_144 0) → count * 4 ≤ length run
    unfolding in_front
    within g =
        let long = four_each lines in
        rw (g, length-append (all_numbers lines) (drop (length (all_numbers lines)) (replicate 262_144 0))) (omega (arith, f, long))

    pub stored-numbers : run ≡ in_front (all_numbers lines) (replicate 262_144 0) → take (count * 4) run ≡ all_numbers (lines_of dispatched input)
    unfolding in_front
    stored-numbers g =
        let ls = lines_of dispatched input in
        rw (g, f, all_lines) (take_at (all_numbers ls) (drop (length (all_numbers ls)) (replicate 262_144 0)) (length ls * 4) (four_each ls))
