-- The four lines, by the transport: which of them is asked, and what the chosen link is.
use Prim.Native.Nat.{ℕ, ◌+◌}
use native.Mathlib.Omega.{arith}
use mathlib.Core.Path.{◌≡◌, refl, sym, ◌∙◌, ap, fun_ext}
use mathlib.Core.Bool.{Bool, true, false, cond, ◌||◌, and-false}
use mathlib.Core.List.{List, [], ◌∷◌}
use lib.Dec.{eqb}
use lib.ListN.{get_or}
use borrow.Author.Tests.{eqb-true, ne_eqb}
use Rattle.area.specs.declared.Area.{Area}
use Rattle.ipv6.specs.Packet.{source, destination}
use Rattle.links.specs.declared.LinkIndex.{LinkIndex}
use Rattle.links.specs.declared.Settings.{Settings}
use Rattle.links.specs.declared.Slot.{Slot}
use Rattle.links.specs.declared.Table.{Table}
use Rattle.links.specs.Settings.{reaches}
use Rattle.links.specs.Slots.{dgvl_index, index_at, free, counted, any, place, with}
use Rattle.links.specs.Index.{interface_at, chosen}
use Rattle.links.proofs.Laws.Counted.{stop-index, place_of-index, slot_of_stop}
use Rattle.traffic.specs.Arrives.{Indication, Link, topological, dynamic, PerhapsStop, at, nowhere, stop_by, is_area, by_area, by_destination, by_source, failing, choose, kind_of, link_index, chosen_for}
use Rattle.traffic.proofs.Laws.Stops.{found_at_lem}

-- tests that answer alike find alike
found_alike : (p q : Settings → Bool) (l : List Slot) → ((s : Settings) → p s ≡ q s) → stop_by p l ≡ stop_by q l
found_alike p q l h = ap (λ (r : Settings → Bool). stop_by r l) (fun_ext h)

-- a test that nothing passes finds nothing
found_none : (l : List Slot) → stop_by (λ s. false) l ≡ nowhere
unfolding stop_by any
found_none l = rw (none l)
  where
    none : (l : List Slot) → any (with (λ s. false)) l ≡ false
    none [] = refl
    none (x ∷ l) = rw (and-false x.enabled, none l)

never : (p : Settings → Bool) (l : List Slot) → ((s : Settings) → p s ≡ false) → stop_by p l ≡ nowhere
never p l h = found_alike p (λ s. false) l h ∙ found_none l

two-or_three : (n : ℕ) → (eqb n 2 || eqb n 3) ≡ true → (eqb n 4 ≡ false) × (eqb n 1 ≡ false)
two-or_three n e = go (eqb n 2) refl e
  where
    go : (t : Bool) → eqb n 2 ≡ t → (t || eqb n 3) ≡ true → (eqb n 4 ≡ false) × (eqb n 1 ≡ false)
    go true p e = rw (eqb-true n 2 p) (refl, refl)
    go false p e = rw (eqb-true n 3 e) (refl, refl)

module _ (l : List Slot) (x : Indication) where
  pub choose-topological : eqb x.transport 4 ≡ true → choose l x ≡ topological
  unfolding choose
  choose-topological e = rw e

  -- transport 1: the destination, failing that the source
  pub choose_unicast : x.transport ≡ 1
      → choose l x ≡ failing (stop_by (λ s. reaches s (destination x.packet)) l) (failing (stop_by (λ s. reaches s (source x.packet)) l) dynamic)
  unfolding choose by_area by_destination by_source
  choose_unicast e =
      rw (never (by_area x) l (λ s. rw e), found_alike (by_destination x) (λ s. reaches s (destination x.packet)) l (λ s. rw e), found_alike (by_source x) (λ s. reaches s (source x.packet)) l (λ s. rw e), e)

  -- transport 2 or 3: the area
  pub choose-area : (eqb x.transport 2 || eqb x.transport 3) ≡ true
      → choose l x ≡ failing (stop_by (λ s. is_area x.destination s.area) l) dynamic
  unfolding choose by_area by_destination by_source
  choose-area e =
      let n = two-or_three x.transport e in
      rw (n.0, found_alike (by_area x) (λ s. is_area x.destination s.area) l (λ s. rw e), never (by_destination x) l (λ s. rw n.1), never (by_source x) l (λ s. rw n.1))

  -- any other: the dynamic link
  pub choose-other : eqb x.transport 4 ≡ false → eqb x.transport 1 ≡ false → (eqb x.transport 2 || eqb x.transport 3) ≡ false → choose l x ≡ dynamic
  unfolding choose by_area by_destination by_source
  choose-other e f g =
      rw (e, never (by_area x) l (λ s. rw g), never (by_destination x) l (λ s. rw f), never (by_source x) l (λ s. rw f))

-- the index of what a search finds, or that of the link that is taken failing it
pub index-found : (q : Settings → Bool) (l : List Slot) (k : Link) → link_index (failing (stop_by q l) k) ≡ cond (any (with q) l) (index_at (place (with q) l)) (link_index k)
unfolding stop_by
index-found q l k = go (any (with q) l)
  where
    go : (t : Bool) → link_index (failing (cond t (at (place (with q) l) (get_or l (place (with q) l) free).settings) nowhere) k) ≡ cond t (index_at (place (with q) l)) (link_index k)
    go true = refl
    go false = refl

-- the index that the lines give, by the transport

abbrev pub IndexOr : (Settings → Bool) → List Slot → LinkIndex → LinkIndex
IndexOr q l other = cond (any (with q) l) (index_at (place (with q) l)) other

module _ (l : List Slot) (x : Indication) where
  pub index_unicast : x.transport ≡ 1
      → link_index (choose l x) ≡ IndexOr (λ s. reaches s (destination x.packet)) l (IndexOr (λ s. reaches s (source x.packet)) l dgvl_index)
  index_unicast e =
      rw (choose_unicast l x e, index-found (λ s. reaches s (destination x.packet)) l (failing (stop_by (λ s. reaches s (source x.packet)) l) dynamic), index-found (λ s. reaches s (source x.packet)) l dynamic)

  pub index-area : (eqb x.transport 2 || eqb x.transport 3) ≡ true → link_index (choose l x) ≡ IndexOr (λ s. is_area x.destination s.area) l dgvl_index
  index-area e = rw (choose-area l x e, index-found (λ s. is_area x.destination s.area) l dynamic)

-- a destination that is no area is that of no link
pub index_no_area : (l : List Slot) (x : Indication) → (eqb x.transport 2 || eqb x.transport 3) ≡ true → ((b : Area) → is_area x.destination b ≡ false) → link_index (choose l x) ≡ dgvl_index
index_no_area l x e h = rw (choose-area l x e, never (λ s. is_area x.destination s.area) l (λ s. h s.area))

-- the first that is found is kept, and where none is the next is asked
pub index_kept : (q : Settings → Bool) (l : List Slot) (other : LinkIndex) → any (with q) l ≡ true → IndexOr q l dgvl_index ≡ IndexOr q l other
index_kept q l other e = rw e

pub index-failing : (q : Settings → Bool) (l : List Slot) (other : LinkIndex) → any (with q) l ≡ false → other ≡ IndexOr q l other
index-failing q l other e = rw e

-- the kind of the chosen link is that of its index
pub kind_by_index : (t : Table) (x : Indication) → kind_of t (choose (counted t) x) ≡ (interface_at t (link_index (choose (counted t) x))).kind
unfolding choose interface_at
kind_by_index t x = first (eqb x.transport 4)
  where
    Right : Link → Type 0
    Right k = kind_of t k ≡ (interface_at t (link_index k)).kind

    by : (q : Settings → Bool) (k : Link) → Right k → Right (failing (stop_by q (counted t)) k)
    by q k r = go (stop_by q (counted t)) refl
      where
        go : (f : PerhapsStop) → stop_by q (counted t) ≡ f → Right (failing f k)
        go (at j s) e =
            rw (ne_eqb (j + 2) 0 (λ z. omega arith), ne_eqb (j + 2) 1 (λ z. omega arith), slot_of_stop (counted t) (index_at j) (stop-index j), place_of-index j, (found_at_lem q (counted t) j s e).0)
        go nowhere e = r

    first : (b : Bool) → Right (cond b topological (failing (stop_by (by_area x) (counted t)) (failing (stop_by (by_destination x) (counted t)) (failing (stop_by (by_source x) (counted t)) dynamic))))
    first true = refl
    first false = by (by_area x) _ (by (by_destination x) _ (by (by_source x) dynamic refl))

-- so a search that gives a link by its index gives the link that was chosen
pub chosen_by_index : (t : Table) (x : Indication) → chosen t (link_index (choose (counted t) x)) ≡ chosen_for t x
chosen_by_index t x = ap (λ (k : ℕ). record { index = link_index (choose (counted t) x); kind = k }) (sym (kind_by_index t x))
