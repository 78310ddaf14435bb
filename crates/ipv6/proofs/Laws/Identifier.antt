-- Modified EUI-64: the identifier of a MID and the MID of an identifier undo each other.
use Rattle.std.specs.Prelude.{None, Some}
use Prim.Native.Nat.{ℕ, zero, suc, ◌+◌, ◌-◌, ◌/◌, ◌%◌, ◌^◌, ◌≤◌, ◌<◌}
use native.Mathlib.Nat.{mod-eq_of_lt}
use native.Mathlib.Omega.{arith}
use mathlib.Core.Path.{◌≡◌, refl, sym, ◌∙◌, ap}
use mathlib.Core.Logic.{◌↔◌, ◌≢◌}
use mathlib.Core.Bool.{Bool, true, false, cond, ◌&&◌, and-eq-true_iff}
use mathlib.Core.List.{List, [], ◌∷◌, ◌++◌}
use lib.Dec.{eqb, lit<}
use lib.ListN.{length, get_or, drop, length-drop}
use lib.Seq.{take_all, drop-drop, get_or-drop}
use borrow.Author.Tests.{eqb-true, eqb-false, eq-eqb, ne_eqb}
use Rattle.octets.specs.Digits.{digits, big_endian, mac}
use Rattle.octets.specs.Runs.{same}
use Rattle.octets.proofs.Laws.Runs.{same_true, spread, part_spread}
use Rattle.octets.proofs.Laws.Digits.{Below, below_append, below_spread, number_digits, digits_number, number_below}
use Rattle.ipv6.specs.Address.{multicast, zeros_then, good_hop}
use Rattle.ipv6.proofs.Laws.Hops.{good_hops}
use Rattle.ipv6.specs.Identifier.{flipped, first_flipped, identifier, link_local, from_mac, mid_of_identifier, mid_of}

-- the last three bytes of an address
end_spread : (a : List ℕ) → length a ≡ 16 → drop 5 (drop 8 a) ≡ spread a 13 3
end_spread a e =
    let few : length (drop 13 a) ≤ 3 = omega (arith, length-drop 13 a) in
    drop-drop 5 8 a ∙ sym (take_all 3 (drop 13 a) few) ∙ part_spread a 13 3 (omega arith)

pub mid_bytes : (a : List ℕ) → length a ≡ 16 → mid_of_identifier (drop 8 a) ≡ big_endian (first_flipped (spread a 8 3 ++ spread a 13 3))
unfolding mid_of_identifier
mid_bytes a e = rw (part_spread a 8 3 (omega arith), end_spread a e)

flip_flip : (b : ℕ) → flipped (flipped b) ≡ b
unfolding flipped
flip_flip b = go (eqb (b / 2 % 2) 0) refl
  where
    go : (t : Bool) → eqb (b / 2 % 2) 0 ≡ t → flipped (cond t (b + 2) (b - 2)) ≡ b
    go true e =
        let even = eqb-true (b / 2 % 2) 0 e in
        rw (ne_eqb ((b + 2) / 2 % 2) 0 (λ z. omega arith)) (omega arith)
    go false e =
        let odd : b / 2 % 2 ≢ 0 = eqb-false (b / 2 % 2) 0 e in
        rw (eq-eqb ((b - 2) / 2 % 2) 0 (omega arith)) (omega arith)

-- the MID of an address that was built from a MID is that MID
pub mid_of-link_local : (m : ℕ) → m < 2 ^ 48 → mid_of (link_local m) ≡ Some m
unfolding mid_of good_hop multicast same link_local identifier from_mac mid_of_identifier digits
mid_of-link_local m h = ap Some (rw (flip_flip (m / 256 ^ 5 % 256)) (number_digits 256 (lit< tt) 6 m ∙ mod-eq_of_lt h))

-- a good next hop with FF FE in the fourth and fifth place of its last 8 bytes
pub record HasMid (a : List ℕ) : Type 0 where
  pub good : good_hop a ≡ true
  pub ff : get_or (drop 8 a) 3 0 ≡ 0xff
  pub fe : get_or (drop 8 a) 4 0 ≡ 0xfe

pub given : (a : List ℕ) → HasMid a → mid_of a ≡ Some (mid_of_identifier (drop 8 a))
unfolding mid_of from_mac
given a h = rw (h.good, h.ff, h.fe)

-- an address gives a MID exactly then
pub gives_mid : (a : List ℕ) → ((m : ℕ) × (mid_of a ≡ Some m)) ↔ HasMid a
unfolding mid_of from_mac
gives_mid a = (λ g. there g.1, λ h. (mid_of_identifier (drop 8 a), given a h))
  where
    there : {m : ℕ} → mid_of a ≡ Some m → HasMid a
    there {m} g = go (good_hop a && from_mac (drop 8 a)) refl
      where
        go : (t : Bool) → (good_hop a && from_mac (drop 8 a)) ≡ t → HasMid a
        go true f = let b = simp and-eq-true_iff at f in record { good = b.0; ff = eqb-true _ _ b.1.0; fe = eqb-true _ _ b.1.1 }
        go false f = let n : None ≡ Some m = rw f at g in absurd (let z : ◌≡◌ {A = ℕ} 0 1 = cc in omega arith)

-- what is no good next hop gives none
pub bad_hop_without_mid : (a : List ℕ) → good_hop a ≡ false → mid_of a ≡ None
unfolding mid_of
bad_hop_without_mid a e = rw e

-- FF FE stand where :: and ::1 have zeros
with_ff : (a : List ℕ) (last : ℕ) → get_or a 11 0 ≡ 0xff → same a (zeros_then last) ≡ false
with_ff a last e = go (same a (zeros_then last)) refl
  where
    go : (b : Bool) → same a (zeros_then last) ≡ b → same a (zeros_then last) ≡ false
    go true f = let zero-there = ap (λ (l : List ℕ). get_or l 11 0) (same_true a (zeros_then last) f) in absurd (omega (arith, e, zero-there))
    go false f = f

-- the MID of a run of bytes, by its length, its bytes 11 and 12, and its first byte
module _ (a : List ℕ) where
  abbrev pub from : Bool
  from = eqb (get_or a 11 0) 0xff && eqb (get_or a 12 0) 0xfe

  pub no_address : length a ≢ 16 → mid_of a ≡ None
  unfolding mid_of good_hop
  no_address h = rw (ne_eqb (length a) 16 h)

  pub without_ff_fe : from ≡ false → mid_of a ≡ None
  unfolding mid_of from_mac
  without_ff_fe e = rw (get_or-drop 8 a 3 0, get_or-drop 8 a 4 0, e) (go (good_hop a))
    where
      go : (b : Bool) → cond (b && false) (Some (mid_of_identifier (drop 8 a))) None ≡ None
      go true = refl
      go false = refl

  pub many_without_mid : get_or a 0 0 ≡ 0xff → mid_of a ≡ None
  many_without_mid e = bad_hop_without_mid a (go (good_hop a) refl)
    where
      go : (b : Bool) → good_hop a ≡ b → good_hop a ≡ false
      go true f = absurd (((good_hops a).0 f).3 e)
      go false f = f

  pub with_ff_fe : length a ≡ 16 → from ≡ true → get_or a 0 0 ≢ 0xff → mid_of a ≡ Some (mid_of_identifier (drop 8 a))
  unfolding good_hop multicast
  with_ff_fe long e one =
      let both = simp and-eq-true_iff at e in
      let ff = eqb-true _ _ both.0 in
      given a
      (record {
        good = rw (eq-eqb (length a) 16 long, with_ff a 0 ff, with_ff a 1 ff, ne_eqb (get_or a 0 0) 0xff one);
        ff = get_or-drop 8 a 3 0 ∙ ff;
        fe = get_or-drop 8 a 4 0 ∙ eqb-true _ _ both.1;
      })

flip_below : (b : ℕ) → b < 256 → flipped b < 256
unfolding flipped
flip_below b h = go (eqb (b / 2 % 2) 0) refl
  where
    go : (t : Bool) → eqb (b / 2 % 2) 0 ≡ t → cond t (b + 2) (b - 2) < 256
    go true e = omega (arith, eqb-true (b / 2 % 2) 0 e)
    go false e = omega arith

first_flipped_below : (l : List ℕ) → Below 256 l → Below 256 (first_flipped l)
first_flipped_below [] f i = f i
first_flipped_below (x ∷ l) f zero = flip_below x (f 0)
first_flipped_below (x ∷ l) f (suc i) = f (suc i)

module _ (a : List ℕ) (m : ℕ) (bytes : Below 256 a) (g : mid_of a ≡ Some m) where
  has : HasMid a
  has = (gives_mid a).0 (m, g)

  long : length a ≡ 16
  long = ((good_hops a).0 has.good).0

  mac-bytes : List ℕ
  mac-bytes = first_flipped (spread a 8 3 ++ spread a 13 3)

  mac_below : Below 256 mac-bytes
  unfolding mac-bytes
  mac_below =
      first_flipped_below (spread a 8 3 ++ spread a 13 3)
      (below_append 256 (spread a 8 3) (spread a 13 3) (below_spread 256 a 8 3 (lit< tt) bytes) (below_spread 256 a 13 3 (lit< tt) bytes))

  is_number : m ≡ big_endian mac-bytes
  unfolding mac-bytes
  is_number =
      let known : mid_of a ≡ Some (mid_of_identifier (drop 8 a)) = given a has in
      let same : m ≡ mid_of_identifier (drop 8 a) = cc in
      same ∙ mid_bytes a long

  pub mid_below : m < 2 ^ 48
  unfolding mac-bytes
  mid_below = rw is_number (number_below 256 (lit< tt) mac-bytes mac_below)

  -- and the identifier of that MID is the address's last 8 bytes again
  pub identifier_of_mid : identifier m ≡ drop 8 a
  unfolding identifier mac-bytes
  identifier_of_mid =
      let few : length (drop 8 a) ≤ 8 = omega (arith, length-drop 8 a, long) in
      let mac-is : mac m ≡ mac-bytes = ap mac is_number ∙ digits_number 256 (lit< tt) mac-bytes mac_below in
      rw (mac-is, flip_flip (get_or a 8 0), ← has.ff, ← has.fe, get_or-drop 8 a 3 0, get_or-drop 8 a 4 0)
      (sym (sym (take_all 8 (drop 8 a) few) ∙ part_spread a 8 8 (omega (arith, long))))
