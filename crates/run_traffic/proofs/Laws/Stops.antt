-- The place of the record of a chosen link.
use Rattle.std.specs.Prelude.{ℕ, ◌<◌, ◌≡◌, Bool, true, false, cond, ◌||◌, List, length, take, get_or, eqb, Option, Some, None, MatchOption, refl, ◌≢◌, [], ◌∷◌}
use native.Mathlib.Omega.{arith}
use mathlib.Core.Path.{sym, ◌∙◌, ap, subst}
use mathlib.Core.Bool.{and-false}
use lib.Dec.{lit<}
use lib.ListN.{length-take}
use borrow.Author.Tests.{ne_eqb}
use Rattle.octets.proofs.Laws.Digits.{Below, below_part}
use Rattle.area.specs.declared.Area.{Area}
use Rattle.area.specs.Area.{same_area}
use Rattle.prefix.specs.declared.Prefix.{Prefix}
use Rattle.prefix.specs.Prefix.{of_address}
use Rattle.ipv6.specs.Packet.{source, destination}
use Rattle.links.specs.declared.Settings.{Settings}
use Rattle.links.specs.declared.Slot.{Slot}
use Rattle.links.specs.Settings.{reaches}
use Rattle.links.specs.Slots.{dgvl_index, index_at, free, any, place, with}
use Rattle.links.proofs.Laws.Counted.{enabled_below}
use Rattle.links.proofs.Laws.Settings.{reaches_as_overlap}
use Rattle.search.specs.Search.{overlapping, found_in}
use Rattle.traffic.specs.declared.Destination.{Destination}
use Rattle.traffic.specs.declared.Destination.TheVariants.{Within}
use Rattle.traffic.specs.Arrives.{Indication, Link, topological, dynamic, stop, PerhapsStop, at, nowhere, stop_by, is_area, by_area, by_destination, by_source, failing, choose, link_index}
use Rattle.traffic.proofs.Laws.Choice.{choose-topological, choose_unicast, choose-area, choose-other}
use Rattle.traffic.proofs.Laws.Stops.{found_at_lem}
use Rattle.run_traffic.specs.Choice.{stop_place}

-- a test that nothing passes
any_never : (q : Settings → Bool) (l : List Slot) → ((s : Settings) → q s ≡ false) → any (with q) l ≡ false
unfolding any
any_never q [] none = refl
any_never q (y ∷ l) none = rw (none y.settings, and-false y.enabled) (any_never q l none)

-- the place of what a search finds, or that of the link that is taken failing it
pub place-found : (q : Settings → Bool) (l : List Slot) (k : Link) → stop_place (failing (stop_by q l) k) ≡ cond (any (with q) l) (Some (place (with q) l)) (stop_place k)
unfolding stop_by
place-found q l k = go (any (with q) l)
  where
    go : (t : Bool) → stop_place (failing (cond t (at (place (with q) l) (get_or l (place (with q) l) free).settings) nowhere) k) ≡ cond t (Some (place (with q) l)) (stop_place k)
    go true = refl
    go false = refl

-- who asks for what overlaps an address alone asks for what reaches it
same-question : (a : List ℕ) → Below 256 a → ◌≡◌ {A = Settings → Bool} (λ s. reaches s a) (overlapping (of_address a))
same-question a bytes i s = reaches_as_overlap s a bytes i

found-alike : (l : List Slot) (p : Prefix) (a : List ℕ) → Below 256 a → p ≡ of_address a → ◌≡◌ {A = Slot → Bool} (with (λ s. reaches s a)) (with (overlapping p))
found-alike l p a bytes e = ap with (same-question a bytes ∙ ap overlapping (sym e))

-- The place of the chosen link's record, by the transport
module _ (l : List Slot) (x : Indication) where
  pub by_address : (to from : Prefix) → Below 256 x.packet → to ≡ of_address (destination x.packet) → from ≡ of_address (source x.packet) → x.transport ≡ 1
      → cond (any (with (overlapping to)) l) (Some (place (with (overlapping to)) l)) (found_in l (with (overlapping from))) ≡ stop_place (choose l x)
  by_address to from bytes t f e =
      let aim = found-alike l to (destination x.packet) (below_part 256 x.packet 24 16 (lit< tt) bytes) t in
      let origin = found-alike l from (source x.packet) (below_part 256 x.packet 8 16 (lit< tt) bytes) f in
      sym
      (ap stop_place (choose_unicast l x e)
      ∙ place-found (λ s. reaches s (destination x.packet)) l _
      ∙ ap (λ (k : Option ℕ). cond (any (with (λ s. reaches s (destination x.packet))) l) (Some (place (with (λ s. reaches s (destination x.packet))) l)) k) (place-found (λ s. reaches s (source x.packet)) l dynamic)
      ∙ ap (λ (q : Slot → Bool). cond (any q l) (Some (place q l)) (found_in l (with (λ s. reaches s (source x.packet))))) aim
      ∙ ap (λ (q : Slot → Bool). cond (any (with (overlapping to)) l) (Some (place (with (overlapping to)) l)) (found_in l q)) origin)

  module _ (e : (eqb x.transport 2 || eqb x.transport 3) ≡ true) where
    pub by_ground : (a : Area) → x.destination ≡ Within a → found_in l (with (λ s. same_area s.area a)) ≡ stop_place (choose l x)
    by_ground a f =
        sym
        (ap stop_place (choose-area l x e)
        ∙ place-found (λ s. is_area x.destination s.area) l dynamic
        ∙ ap (λ (d : Destination). found_in l (with (λ s. is_area d s.area))) f)

    pub elsewhere : ((b : Area) → is_area x.destination b ≡ false) → None ≡ stop_place (choose l x)
    elsewhere none =
        sym
        (ap stop_place (choose-area l x e)
        ∙ place-found (λ s. is_area x.destination s.area) l dynamic
        ∙ nothing)
      where
        nothing : found_in l (with (λ s. is_area x.destination s.area)) ≡ None
        nothing = rw (any_never (λ s. is_area x.destination s.area) l (λ s. none s.area))

  pub no_stop : x.transport ≢ 1 → x.transport ≢ 2 → x.transport ≢ 3 → None ≡ stop_place (choose l x)
  no_stop one two three = go (eqb x.transport 4) refl
    where
      go : (b : Bool) → eqb x.transport 4 ≡ b → None ≡ stop_place (choose l x)
      go true e = sym (ap stop_place (choose-topological l x e))
      go false e = sym (ap stop_place (choose-other l x e (ne_eqb x.transport 1 one) (rw (ne_eqb x.transport 2 two, ne_eqb x.transport 3 three) refl)))

-- what is found first is kept, and failing that the next is taken
pub failing_that : (found next taken : Option ℕ) (b : Bool) (k : ℕ) (asked : Type 0)
    → found ≡ cond b (Some k) None → MatchOption found asked (λ x. taken ≡ Some x) → (asked → taken ≡ next) → taken ≡ cond b (Some k) next
failing_that found next taken true k asked e m f = subst (λ (o : Option ℕ). MatchOption o asked (λ x. taken ≡ Some x)) e m
failing_that found next taken false k asked e m f = f (subst (λ (o : Option ℕ). MatchOption o asked (λ x. taken ≡ Some x)) e m)

-- what holds of every stop link that is found, and of the fixed links, holds of the chosen link
module _ (l : List Slot) (P : Link → Type 0) (found : (q : Settings → Bool) (k : ℕ) (s : Settings) → stop_by q l ≡ at k s → P (stop k s)) (dynamic_has : P dynamic) where
  by : (q : Settings → Bool) (k : Link) → P k → P (failing (stop_by q l) k)
  by q k r = go (stop_by q l) refl
    where
      go : (f : PerhapsStop) → stop_by q l ≡ f → P (failing f k)
      go (at j s) e = found q j s e
      go nowhere e = r

  pub of_chosen : (x : Indication) → (eqb x.transport 4 ≡ true → P topological) → P (choose l x)
  unfolding choose
  of_chosen x topological_has = go (eqb x.transport 4) refl
    where
      go : (b : Bool) → eqb x.transport 4 ≡ b → P (cond b topological (failing (stop_by (by_area x) l) (failing (stop_by (by_destination x) l) (failing (stop_by (by_source x) l) dynamic))))
      go true e = topological_has e
      go false e = by (by_area x) _ (by (by_destination x) _ (by (by_source x) dynamic dynamic_has))

-- a stop link is one of the run, and its index that of its record
pub place-below : (l : List Slot) (x : Indication) (k : ℕ) → Some k ≡ stop_place (choose l x) → k < length l
place-below l x k = of_chosen l (λ c. Some k ≡ stop_place c → k < length l) found (λ e. absurd cc) x (λ e f. absurd cc)
  where
    found : (q : Settings → Bool) (j : ℕ) (s : Settings) → stop_by q l ≡ at j s → Some k ≡ Some j → k < length l
    found q j s e f =
        let same : k ≡ j = cc in
        let below = enabled_below l j (ap (λ (y : Slot). y.enabled) (found_at_lem q l j s e).0) in
        omega arith

pub place-in_run : (n : ℕ) (run : List Slot) (x : Indication) (k : ℕ) → Some k ≡ stop_place (choose (take n run) x) → k < length run
place-in_run n run x k e = omega (arith, place-below (take n run) x k e, length-take n run)

pub index-stop : (c : Link) (k : ℕ) → Some k ≡ stop_place c → link_index c ≡ index_at k
index-stop topological k e = absurd cc
index-stop dynamic k e = absurd cc
index-stop (stop j s) k e =
    let same : k ≡ j = cc in
    ap index_at (sym same)

-- where none is chosen, the dynamic link is
pub index-dynamic : (l : List Slot) (x : Indication) → eqb x.transport 4 ≡ false → None ≡ stop_place (choose l x) → link_index (choose l x) ≡ dgvl_index
index-dynamic l x other = of_chosen l (λ c. None ≡ stop_place c → link_index c ≡ dgvl_index) (λ q k s e f. absurd cc) (λ e. refl) x (λ e f. absurd cc)
