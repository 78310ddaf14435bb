-- Demand 3, proved.
use Prim.Native.Nat.{ℕ, zero, suc}
use native.Mathlib.Omega.{arith}
use mathlib.Core.Path.{◌≡◌, refl, sym, ◌∙◌, ap, subst, subst₂}
use mathlib.Core.Bool.{Bool, true, false, cond, ◌&&◌, ◌||◌, and-eq-true_iff}
use mathlib.Core.List.{List, ◌++◌}
use lib.Dec.{eqb}
use lib.ListN.{length, get_or, drop}
use borrow.Author.Tests.{eqb-true}
use Rattle.octets.proofs.Laws.Tests.{clash}
use Rattle.replies.specs.Rules.{refusal}
use Rattle.ipv6.specs.Packet.{source, destination}
use Rattle.links.specs.declared.Interface.{Interface}
use Rattle.links.specs.declared.Settings.{Settings}
use Rattle.links.specs.declared.Slot.{Slot}
use Rattle.links.specs.declared.Table.{Table}
use Rattle.links.specs.Settings.{same_ground, reaches, Same}
use Rattle.links.specs.Slots.{Has, free, in_use, counted}
use Rattle.links.specs.Reached.{Reached, Sound}
use Rattle.links.proofs.Laws.Settings.{ground_one, ground_alike, reaches-one, reaches-alike}
use Rattle.links.proofs.Laws.Sound.{sound}
use Rattle.links.proofs.Laws.Run.{reached_long}
use Rattle.traffic.specs.declared.Destination.{Destination}
use Rattle.traffic.specs.declared.Destination.TheVariants.{Mid, Within, Nothing}
use Rattle.traffic.specs.Replies.{Reception}
use Rattle.traffic.specs.Arrives.{Indication, Received, Link, topological, dynamic, stop, PerhapsStop, at, nowhere, stop_by, is_area, by_area, by_destination, by_source, failing, choose, frame_or_packet, deliver_as, deliver, unless, indication_rules, receive, Promised}
use Rattle.traffic.specs.Demand3.{Lacks, Wider, OnStop, Follows, refuses_alike, topological_stays, stop_stays, stop_moves, dynamic_stays, dynamic_moves, Demand3, Returned, by_value, over_run, Demand3OfCalls}
use Rattle.traffic.proofs.Laws.Run.{received-alike}
use Rattle.traffic.proofs.Laws.Stops.{found_at_lem, found_nowhere}

-- A test by which line 2 or 3 looks for a link: equal settings answer it alike, and in a sound table one link at most passes it.
record Line (q : Settings → Bool) : Type 0 where
  alike : (r s : Settings) → Same r s → q r ≡ q s
  one : {most : ℕ} {memory : List Slot} (u : Table) → Sound most memory u → (j k : ℕ) (r s : Settings) → Has (counted u) j r → Has (counted u) k s → q r ≡ true → q s ≡ true → j ≡ k

-- line 2
area-alike : (d : Destination) (r s : Settings) → Same r s → is_area d r.area ≡ is_area d s.area
area-alike (Mid m) r s same = refl
area-alike (Within a) r s same = ground_alike r s a same
area-alike Nothing r s same = refl

area-one : (d : Destination) (r s : Settings) → is_area d r.area ≡ true → is_area d s.area ≡ true → same_ground r s ≡ true
area-one (Mid m) r s e f = clash e refl
area-one (Within a) r s e f = ground_one r s a e f
area-one Nothing r s e f = clash e refl

line-area : (x : Indication) → Line (by_area x)
unfolding by_area
line-area x = record {
  alike = λ r s same. ap (λ (b : Bool). (eqb x.transport 2 || eqb x.transport 3) && b) (area-alike x.destination r s same);
  one = λ u h j k r s p q e f. h.areas j k r s p q
      (area-one x.destination r s (simp (by_area, and-eq-true_iff) at e).1 (simp (by_area, and-eq-true_iff) at f).1);
}

-- line 3, for either address
line-address : (b : Bool) (a : List ℕ) → Line (λ s. b && reaches s a)
line-address b a = record {
  alike = λ r s same. ap (λ (c : Bool). b && c) (reaches-alike r s a same);
  one = λ u h j k r s p q e f. h.prefixes j k r s p q
      (reaches-one r s a (simp and-eq-true_iff at e).1 (simp and-eq-true_iff at f).1);
}

line-destination : (x : Indication) → Line (by_destination x)
unfolding by_destination
line-destination x = line-address (eqb x.transport 1) (destination x.packet)

line-source : (x : Indication) → Line (by_source x)
unfolding by_source
line-source x = line-address (eqb x.transport 1) (source x.packet)

-- line 2 and line 3 are for different transports
transports : (n : ℕ) → (eqb n 2 || eqb n 3) ≡ true → eqb n 1 ≡ true → ⊥
transports n e f = clash (subst (λ (m : ℕ). (eqb m 2 || eqb m 3) ≡ true) (eqb-true n 1 f) e) refl

not-destination : (x : Indication) (r s : Settings) → by_area x r ≡ true → by_destination x s ≡ true → ⊥
unfolding by_area by_destination
not-destination x r s e f = transports x.transport (simp (by_area, and-eq-true_iff) at e).0 (simp (by_destination, and-eq-true_iff) at f).0

not-source : (x : Indication) (r s : Settings) → by_area x r ≡ true → by_source x s ≡ true → ⊥
unfolding by_area by_source
not-source x r s e f = transports x.transport (simp (by_area, and-eq-true_iff) at e).0 (simp (by_source, and-eq-true_iff) at f).0

holding : (x : Indication) (s : Settings) → by_destination x s ≡ true → reaches s (destination x.packet) ≡ true
unfolding by_destination
holding x s e = (simp (by_destination, and-eq-true_iff) at e).1

-- what such a test finds in the first table and in the second
data Compare (t u : Table) (q : Settings → Bool) : PerhapsStop → PerhapsStop → Type 0 where
  both : (j k : ℕ) (r s : Settings) → Has (counted t) j r → Has (counted u) k s → Same r s → Compare t u q (at j r) (at k s)
  new : (k : ℕ) (s : Settings) → Has (counted u) k s → Lacks t s → q s ≡ true → Compare t u q nowhere (at k s)
  neither : Compare t u q nowhere nowhere

module _ (t u : Table) (w : Wider t u) where
  compare : (q : Settings → Bool) → Line q → Compare t u q (stop_by q (counted t)) (stop_by q (counted u))
  compare q line = go (stop_by q (counted t)) (stop_by q (counted u)) refl refl
    where
      go : (f g : PerhapsStop) → stop_by q (counted t) ≡ f → stop_by q (counted u) ≡ g → Compare t u q f g
      go (at j r) (at k s) e f =
          let a = found_at_lem q (counted t) j r e in
          let b = found_at_lem q (counted u) k s f in
          let c = w.stops j r a.0 in
          let p : c.0 ≡ k = line.one u (sound w.second) c.0 k c.1 s c.2 b.0 (sym (line.alike r c.1 c.3) ∙ a.1) b.1 in
          let g : in_use c.1 ≡ in_use s = sym c.2 ∙ ap (λ (n : ℕ). get_or (counted u) n free) p ∙ b.0 in
          both j k r s a.0 b.0 (subst (Same r) (ap (λ (y : Slot). y.settings) g) c.3)
      go (at j r) nowhere e f =
          let a = found_at_lem q (counted t) j r e in
          let c = w.stops j r a.0 in
          clash (sym (line.alike r c.1 c.3) ∙ a.1) (found_nowhere q (counted u) f c.0 c.1 c.2)
      go nowhere (at k s) e f =
          let b = found_at_lem q (counted u) k s f in
          new k s b.0 (λ j r h same. clash (line.alike r s same ∙ b.1) (found_nowhere q (counted t) e j r h)) b.1
      go nowhere nowhere e f = neither

  module _ (x : Indication) (buffer : List ℕ) where
    abbrev First : Link → Received
    First = deliver t x buffer

    abbrev Second : Link → Received
    Second = deliver u x buffer

    on_first : (j : ℕ) (r : Settings) → Has (counted t) j r → OnStop t (First (stop j r)) j r
    on_first j r h = record { done = refl; link = refl; enabled = h }

    on_second : (k : ℕ) (s : Settings) → Has (counted u) k s → OnStop u (Second (stop k s)) k s
    on_second k s h = record { done = refl; link = refl; enabled = h }

    stays : (j k : ℕ) (r s : Settings) → Has (counted t) j r → Has (counted u) k s → Same r s → Follows t u x buffer (First (stop j r)) (Second (stop k s))
    stays j k r s a b same =
        let w : frame_or_packet r.interface.kind x ≡ frame_or_packet s.interface.kind x = ap (λ (f : Interface). frame_or_packet f.kind x) same.interface in
        stop_stays j k r s (on_first j r a) (on_second k s b) same
        (record {
          number = refl;
          place = refl;
          frame_length = ap length w;
          source = refl;
          class = refl;
          buffer = ap (λ (v : List ℕ). v ++ drop (length v) buffer) w;
        })

    -- line 2 finds a link in the second table alone
    by_area_lem : (k : ℕ) (s : Settings) → Has (counted u) k s → Lacks t s → by_area x s ≡ true → (d e : PerhapsStop) → stop_by (by_destination x) (counted t) ≡ d → stop_by (by_source x) (counted t) ≡ e
        → Follows t u x buffer (First (failing d (failing e dynamic))) (Second (stop k s))
    by_area_lem k s b l p (at j r) e q f = absurd (not-destination x s r p (found_at_lem _ (counted t) j r q).1)
    by_area_lem k s b l p nowhere (at j r) q f = absurd (not-source x s r p (found_at_lem _ (counted t) j r f).1)
    by_area_lem k s b l p nowhere nowhere q f = dynamic_moves k s refl (on_second k s b) l

    -- the destination finds a link in the second table alone
    by_destination_lem : (k : ℕ) (s : Settings) → Has (counted u) k s → Lacks t s → by_destination x s ≡ true → stop_by (by_destination x) (counted t) ≡ nowhere
        → (e : PerhapsStop) → stop_by (by_source x) (counted t) ≡ e → Follows t u x buffer (First (failing e dynamic)) (Second (stop k s))
    by_destination_lem k s b l p q (at j r) f =
        stop_moves j k r s (on_first j r (found_at_lem _ (counted t) j r f).0) (record { destination = q; source = f }) (on_second k s b) l (holding x s p)
    by_destination_lem k s b l p q nowhere f = dynamic_moves k s refl (on_second k s b) l

    by_source_lem : {e e' : PerhapsStop} → Compare t u (by_source x) e e' → Follows t u x buffer (First (failing e dynamic)) (Second (failing e' dynamic))
    by_source_lem (both j k r s a b same) = stays j k r s a b same
    by_source_lem (new k s b l p) = dynamic_moves k s refl (on_second k s b) l
    by_source_lem neither = dynamic_stays refl (ap (λ (f : Interface). deliver_as (frame_or_packet f.kind x) x buffer (record { 0 = 1 })) w.dgvl)

    lines : {a a' d d' e e' : PerhapsStop} → Compare t u (by_area x) a a' → Compare t u (by_destination x) d d' → Compare t u (by_source x) e e'
        → stop_by (by_destination x) (counted t) ≡ d → stop_by (by_source x) (counted t) ≡ e
        → Follows t u x buffer (First (failing a (failing d (failing e dynamic)))) (Second (failing a' (failing d' (failing e' dynamic))))
    lines (both j k r s a b same) cd ce q f = stays j k r s a b same
    lines (new k s b l p) cd ce q f = by_area_lem k s b l p _ _ q f
    lines neither (both j k r s a b same) ce q f = stays j k r s a b same
    lines neither (new k s b l p) ce q f = by_destination_lem k s b l p q _ f
    lines neither neither ce q f = by_source_lem ce

    chosen : (b : Bool) → Follows t u x buffer
        (First (cond b topological (failing (stop_by (by_area x) (counted t)) (failing (stop_by (by_destination x) (counted t)) (failing (stop_by (by_source x) (counted t)) dynamic)))))
        (Second (cond b topological (failing (stop_by (by_area x) (counted u)) (failing (stop_by (by_destination x) (counted u)) (failing (stop_by (by_source x) (counted u)) dynamic)))))
    chosen true = topological_stays refl (ap (λ (f : Interface). deliver_as (frame_or_packet f.kind x) x buffer (record { 0 = 0 })) w.tvl)
    chosen false = lines (compare _ (line-area x)) (compare _ (line-destination x)) (compare _ (line-source x)) refl refl

    outcome : (n : ℕ) → Follows t u x buffer (unless n x buffer (First (choose (counted t) x))) (unless n x buffer (Second (choose (counted u) x)))
    unfolding choose
    outcome zero = chosen (eqb x.transport 4)
    outcome (suc n) = refuses_alike (λ e. omega arith) refl refl

pub demand_3 : Demand3
unfolding Demand3 receive
demand_3 t u w x buffer = outcome t u w x buffer (refusal (indication_rules x (length buffer)))

-- a table that calls reach is not too short, so that over a run too the answer is that of every table
as_received : {t : Table} {most : ℕ} {memory : List Slot} {x : Indication} {buffer : List ℕ} {r : Reception} {b : List ℕ} → Reached most memory t → Returned t x buffer r b → Promised t x buffer r b
as_received reached (by_value p) = p
as_received {t} {x = x} {buffer = buffer} reached (over_run p) =
    let same = received-alike t (reached_long reached) x buffer in
    (p.0 ∙ ap (λ (a : Received). a.reply) same, p.1 ∙ ap (λ (a : Received). a.buffer) same)

pub demand_3_of_calls : Demand3OfCalls
unfolding Demand3OfCalls Demand3
demand_3_of_calls t u w x buffer r₁ r₂ b₁ b₂ first second =
    let p = as_received w.first first in
    let q = as_received w.second second in
    subst₂ (Follows t u x buffer)
    (λ i. record { reply = sym p.0 i; buffer = sym p.1 i })
    (λ i. record { reply = sym q.0 i; buffer = sym q.1 i })
    (demand_3 t u w x buffer)
