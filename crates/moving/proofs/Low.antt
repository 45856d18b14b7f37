-- Why does a pass that is regular and does not spill land block by block? Assumes nothing.
use mathlib.Core.Path.{◌∙◌, ◌≡◌, ap, ap₂, refl, subst, sym}
use mathlib.Core.Bool.{Bool, false, true}
use mathlib.Core.List.{List, map}
use Prim.Native.Nat.{◌%◌, ◌*◌, ◌+◌, ◌-◌, ◌/◌, ◌<◌, ◌^◌, ◌≤◌, ℕ}
use native.Mathlib.Nat.{div-add-mod', lt_of_lt_of_le, mod-lt, zero-div}
use native.Mathlib.Omega.{arith}
use lib.Arith.{digits_lt}
use lib.Bits.{bit_xor, xor_comm, xor_lt, xor_mod, xor_self, xor_shifted, xor_shr, xor_zero_r}
use lib.Pow.{high, pow_mono, pow_pos, shl_lt}
use lib.ListN.{length, length-take, take}
use Rattle.algebra.proofs.Digits.{bits_below, bits_from, bits_mid, pow_split, xor_assoc, xor_cancel_r, xor-eq, xor_swap, xor4}
use Rattle.algebra.proofs.Inverse.{apply_source, inverse_apply, source-lt, target-source_is}
use Rattle.algebra.proofs.Linear.{apply_columns, apply_linear, apply_xor, comb_units, comb-xor, linear_after, linear_comb, lower_linear}
use Rattle.algebra.proofs.Parts.{apply_take, dry_means}
use Rattle.algebra.proofs.Search.{none_intro}
use Rattle.algebra.proofs.Singular.{kills_elim, regular_zero, source-target}
use Rattle.algebra.specs.Matrix.{applied, columns, inverse, kills, singular, source, target}
use Rattle.algebra.specs.Vector.{comb, unit_vectors}
use Rattle.bank.proofs.Limits.{Allowed}
use Rattle.bank.specs.declared.Geometry.{Geometry}
use Rattle.planning.specs.Inner.{PassRuns}
use Rattle.planning.specs.Pass.{Pass}

module _ {g : Geometry} (ok : Allowed g) {pass : Pass} (runs : PassRuns g pass) where
  abbrev b : ℕ
  b = g.b

  abbrev m : ℕ
  m = g.m

  abbrev rows : List ℕ
  rows = pass.rows

  -- where the pass sends x
  abbrev sent : ℕ → ℕ
  sent x = target pass.rows pass.complement x

  -- what it sends to y
  abbrev from : ℕ → ℕ
  from y = source g.n pass.rows pass.complement y

  block-le : b ≤ m
  block-le = omega arith

  -- rows 0..m-1
  abbrev low : List ℕ
  low = take g.m pass.rows

  low_zero : (z : ℕ) → z < 2 ^ m → applied rows z % 2 ^ m ≡ 0 → z ≡ 0
  low_zero z h e =
      regular_zero g.n rows z runs.regular (lt_of_lt_of_le h (pow_mono (omega arith)))
      (sym (div-add-mod' (applied rows z) (2 ^ m))
      ∙ ap₂ (λ (x y : ℕ). x * 2 ^ m + y)
      (dry_means b m rows runs.dry z h (sym (bits_mid b m block-le (applied rows z)) ∙ ap (λ (k : ℕ). k / 2 ^ b) e ∙ zero-div (2 ^ b))) e
      ∙ omega arith)

  -- rows 0..m-1 on the columns below m are regular
  pub low_regular : singular m low ≡ false
  unfolding singular
  low_regular = none_intro (kills low) (2 ^ m) (λ z h. go z h (kills low z) refl)
    where
      go : (z : ℕ) → z < 2 ^ m → (t : Bool) → kills low z ≡ t → t ≡ false
      go z h false e = refl
      go z h true e =
          let k = kills_elim low z e in
          let q : z ≡ 0 = low_zero z h (sym (apply_take rows m z) ∙ k.1) in
          absurd (omega (arith, k.0))

  low_length : length low ≤ m
  low_length = simp length-take (omega arith)

  -- ---- a load's records and the low m bits of their targets

  -- where the load's first record goes
  abbrev first : ℕ → ℕ
  first l = sent (l * 2 ^ m)

  abbrev first_low : ℕ → ℕ
  first_low l = first l % 2 ^ m

  first_low_lt : (l : ℕ) → first_low l < 2 ^ m
  first_low_lt l = mod-lt (first l) (pow_pos m)

  abbrev place : ℕ → ℕ → ℕ
  place l w = source m low (first_low l) w

  abbrev land : ℕ → ℕ → ℕ
  land l w = sent (l * 2 ^ m + place l w)

  pub on_load : (l z : ℕ) → z < 2 ^ m → sent (l * 2 ^ m + z) ≡ bit_xor (applied rows z) (first l)
  unfolding target
  on_load l z h =
      ap sent (sym (xor_shifted l m z h))
      ∙ ap (λ (x : ℕ). bit_xor x pass.complement) (apply_xor rows (l * 2 ^ m) z ∙ xor_comm (applied rows (l * 2 ^ m)) (applied rows z))
      ∙ xor_assoc (applied rows z) (applied rows (l * 2 ^ m)) pass.complement

  low_target : (k z : ℕ) → target low (k % 2 ^ m) z ≡ bit_xor (applied rows z) k % 2 ^ m
  unfolding target
  low_target k z = ap (λ (x : ℕ). bit_xor x (k % 2 ^ m)) (apply_take rows m z) ∙ sym (xor_mod (applied rows z) k m)

  pub place_lt : (l w : ℕ) → w < 2 ^ m → place l w < 2 ^ m
  place_lt l w h = source-lt m low low_regular low_length (first_low l) w (first_low_lt l) h

  -- the low m bits of a landing are those that were asked for
  land_low : (l w : ℕ) → w < 2 ^ m → land l w % 2 ^ m ≡ w
  land_low l w h =
      ap (λ (x : ℕ). x % 2 ^ m) (on_load l (place l w) (place_lt l w h)) ∙ sym (low_target (first l) (place l w))
      ∙ target-source_is m low low_regular low_length (first_low l) w (first_low_lt l) h

  -- and the place is the one that goes there
  place_is : (l z : ℕ) → z < 2 ^ m → place l (sent (l * 2 ^ m + z) % 2 ^ m) ≡ z
  place_is l z h =
      ap (place l) (ap (λ (x : ℕ). x % 2 ^ m) (on_load l z h) ∙ sym (low_target (first l) z)) ∙ source-target m low (first_low l) z low_regular h

  -- ---- an address whose source lies in the load

  source_is : (y : ℕ) → y < 2 ^ g.n → sent (from y) ≡ y
  source_is y h = target-source_is g.n rows runs.regular (omega arith) pass.complement y runs.complement_below h

  load_split : (l y : ℕ) → from y / 2 ^ m ≡ l → l * 2 ^ m + from y % 2 ^ m ≡ from y
  load_split l y e = ap (λ (k : ℕ). k * 2 ^ m + from y % 2 ^ m) (sym e) ∙ div-add-mod' (from y) (2 ^ m)

  pub place_of : (l y : ℕ) → y < 2 ^ g.n → from y / 2 ^ m ≡ l → place l (y % 2 ^ m) ≡ from y % 2 ^ m
  place_of l y h e =
      ap (λ (x : ℕ). place l (x % 2 ^ m)) (sym (ap sent (load_split l y e) ∙ source_is y h))
      ∙ place_is l (from y % 2 ^ m) (mod-lt (from y) (pow_pos m))

  pub lands : (l y : ℕ) → y < 2 ^ g.n → from y / 2 ^ m ≡ l → land l (y % 2 ^ m) ≡ y
  lands l y h e = ap (λ (z : ℕ). sent (l * 2 ^ m + z)) (place_of l y h e) ∙ ap sent (load_split l y e) ∙ source_is y h

  pub landed_from : (l w : ℕ) → l < 2 ^ (g.n - m) → w < 2 ^ m → from (land l w) / 2 ^ m ≡ l
  landed_from l w hl hw =
      ap (λ (k : ℕ). k / 2 ^ m) (source-target g.n rows pass.complement (l * 2 ^ m + place l w) runs.regular bound)
      ∙ high l m (place_lt l w hw)
    where
      bound : l * 2 ^ m + place l w < 2 ^ g.n
      bound = subst (λ (k : ℕ). l * 2 ^ m + place l w < k) (sym (pow_split m g.n (omega arith))) (digits_lt hl (place_lt l w hw))

  -- ---- whole blocks land together

  differ_is : (l w w' : ℕ) → w < 2 ^ m → w' < 2 ^ m → applied rows (bit_xor (place l w) (place l w')) ≡ bit_xor (land l w) (land l w')
  differ_is l w w' h h' =
      let u = applied rows (place l w) in
      let u' = applied rows (place l w') in
      apply_xor rows (place l w) (place l w')
      ∙ sym (xor_zero_r (bit_xor u u')) ∙ ap (bit_xor (bit_xor u u')) (sym (xor_self (first l))) ∙ xor4 u u' (first l) (first l)
      ∙ sym (ap₂ bit_xor (on_load l (place l w) (place_lt l w h)) (on_load l (place l w') (place_lt l w' h')))

  land_high : (l w w' : ℕ) → w < 2 ^ m → w' < 2 ^ m → w / 2 ^ b ≡ w' / 2 ^ b → land l w / 2 ^ m ≡ land l w' / 2 ^ m
  land_high l w w' h h' e =
      xor-eq (land l w / 2 ^ m) (land l w' / 2 ^ m)
      (sym (xor_shr (land l w) (land l w') m) ∙ ap (λ (k : ℕ). k / 2 ^ m) (sym (differ_is l w w' h h'))
      ∙ dry_means b m rows runs.dry (bit_xor (place l w) (place l w')) (xor_lt m (place l w) (place l w') (place_lt l w h) (place_lt l w' h'))
      (ap (λ (k : ℕ). k / 2 ^ b % 2 ^ (m - b)) (differ_is l w w' h h')
      ∙ sym (bits_mid b m block-le (bit_xor (land l w) (land l w')))
      ∙ ap (λ (k : ℕ). k / 2 ^ b) (xor_mod (land l w) (land l w') m ∙ ap₂ bit_xor (land_low l w h) (land_low l w' h'))
      ∙ xor_shr w w' b ∙ ap (λ (k : ℕ). bit_xor k (w' / 2 ^ b)) e ∙ xor_self (w' / 2 ^ b)))

  pub land_block : (l w w' : ℕ) → w < 2 ^ m → w' < 2 ^ m → w / 2 ^ b ≡ w' / 2 ^ b → land l w / 2 ^ b ≡ land l w' / 2 ^ b
  land_block l w w' h h' e =
      bits_from b m block-le (land l w)
      ∙ ap₂ (λ (x y : ℕ). x * 2 ^ (m - b) + y) (land_high l w w' h h' e)
      (ap (λ (k : ℕ). k / 2 ^ b) (land_low l w h) ∙ e ∙ sym (ap (λ (k : ℕ). k / 2 ^ b) (land_low l w' h')))
      ∙ sym (bits_from b m block-le (land l w'))

  pub block_low : (l w y : ℕ) → w < 2 ^ m → y / 2 ^ b ≡ land l w / 2 ^ b → y % 2 ^ m / 2 ^ b ≡ w / 2 ^ b
  block_low l w y h e =
      bits_mid b m block-le y ∙ ap (λ (k : ℕ). k % 2 ^ (m - b)) e
      ∙ sym (bits_mid b m block-le (land l w)) ∙ ap (λ (k : ℕ). k / 2 ^ b) (land_low l w h)

  -- every address of a block that a landing is in is a landing
  pub whole_block : (l w y : ℕ) → w < 2 ^ m → y / 2 ^ b ≡ land l w / 2 ^ b → land l (y % 2 ^ m) ≡ y
  whole_block l w y h e =
      let l' = land l (y % 2 ^ m) in
      let hy = mod-lt y (pow_pos m) in
      sym (div-add-mod' l' (2 ^ b))
      ∙ ap₂ (λ (x z : ℕ). x * 2 ^ b + z) (land_block l (y % 2 ^ m) w hy h (block_low l w y h e) ∙ sym e)
      (sym (bits_below b m block-le l') ∙ ap (λ (k : ℕ). k % 2 ^ b) (land_low l (y % 2 ^ m) hy) ∙ bits_below b m block-le y)
      ∙ div-add-mod' y (2 ^ b)

  -- ---- the place is affine: the inverse of the low rows, by its m columns, of what differs

  abbrev inv : List ℕ
  inv = inverse g.m (take g.m pass.rows)

  abbrev E : List ℕ
  E = columns m inv

  pub place_form : (l w : ℕ) → w < 2 ^ m → place l w ≡ comb E (bit_xor w (first_low l))
  unfolding target
  place_form l w hw =
      ap (place l) (sym (ap (λ (i : ℕ). bit_xor i (first_low l)) (apply_source m low low_regular low_length e small) ∙ xor_cancel_r w (first_low l)))
      ∙ source-target m low (first_low l) (source m low 0 e) low_regular (source-lt m low low_regular low_length 0 e (pow_pos m) small)
      ∙ sym (inverse_apply m low low_regular low_length e small) ∙ sym (apply_columns m inv e small)
    where
      e : ℕ
      e = bit_xor w (first_low l)

      small : e < 2 ^ m
      small = xor_lt m w (first_low l) hw (first_low_lt l)

  place_affine : (l w e : ℕ) → w < 2 ^ m → e < 2 ^ m → place l (bit_xor w e) ≡ bit_xor (place l w) (comb E e)
  place_affine l w e hw he =
      place_form l (bit_xor w e) (xor_lt m w e hw he) ∙ ap (comb E) (xor_swap w e (first_low l)) ∙ comb-xor E (bit_xor w (first_low l)) e
      ∙ ap (λ (x : ℕ). bit_xor x (comb E e)) (sym (place_form l w hw))

  -- within a block: the first b columns of the inverse of the low rows
  pub place_block : (l w k : ℕ) → w < 2 ^ m → k < 2 ^ b → place l (bit_xor w k) ≡ bit_xor (place l w) (comb (columns b inv) k)
  place_block l w k hw hk =
      let small = lt_of_lt_of_le hk (pow_mono block-le) in
      place_affine l w k hw small ∙ ap (bit_xor (place l w)) (apply_columns m inv k small ∙ sym (apply_columns b inv k hk))

  -- ---- affine in the drive: columns b..b+d-1 of the inverse

  abbrev drive_columns : List ℕ
  drive_columns = map (applied inv) (unit_vectors g.d b)

  land_affine : (l w e : ℕ) → w < 2 ^ m → e < 2 ^ m → land l (bit_xor w e) ≡ bit_xor (land l w) (applied rows (comb E e))
  land_affine l w e hw he =
      on_load l (place l (bit_xor w e)) (place_lt l (bit_xor w e) (xor_lt m w e hw he))
      ∙ ap (λ (x : ℕ). bit_xor x (first l)) (ap (applied rows) (place_affine l w e hw he) ∙ apply_xor rows (place l w) (comb E e))
      ∙ xor_swap (applied rows (place l w)) (applied rows (comb E e)) (first l)
      ∙ ap (λ (x : ℕ). bit_xor x (applied rows (comb E e))) (sym (on_load l (place l w) (place_lt l w hw)))

  shifted_lt : (q : ℕ) → q < 2 ^ g.d → q * 2 ^ b < 2 ^ m
  shifted_lt q h = lt_of_lt_of_le (shl_lt g.d b h) (pow_mono (omega arith))

  drive_columns_lem : (q : ℕ) → q < 2 ^ g.d → comb E (q * 2 ^ b) ≡ comb drive_columns q
  drive_columns_lem q h =
      apply_columns m inv (q * 2 ^ b) (shifted_lt q h) ∙ ap (applied inv) (sym (comb_units g.d b q h))
      ∙ linear_comb (applied inv) (apply_linear inv) (unit_vectors g.d b) q

  pub place_drive : (l w q : ℕ) → w < 2 ^ m → q < 2 ^ g.d → place l (bit_xor w (q * 2 ^ b)) ≡ bit_xor (place l w) (comb drive_columns q)
  place_drive l w q hw hq = place_affine l w (q * 2 ^ b) hw (shifted_lt q hq) ∙ ap (bit_xor (place l w)) (drive_columns_lem q hq)

  pub block_drive : (l w q : ℕ) → w < 2 ^ m → q < 2 ^ g.d
      → land l (bit_xor w (q * 2 ^ b)) / 2 ^ b ≡ bit_xor (land l w / 2 ^ b) (comb (map (λ v. applied rows v / 2 ^ b) drive_columns) q)
  block_drive l w q hw hq =
      ap (λ (k : ℕ). k / 2 ^ b)
      (land_affine l w (q * 2 ^ b) hw (shifted_lt q hq) ∙ ap (λ (k : ℕ). bit_xor (land l w) (applied rows k)) (drive_columns_lem q hq))
      ∙ xor_shr (land l w) (applied rows (comb drive_columns q)) b
      ∙ ap (bit_xor (land l w / 2 ^ b))
      (linear_comb (λ v. applied rows v / 2 ^ b) (linear_after (λ v. v / 2 ^ b) (applied rows) (lower_linear b) (apply_linear rows)) drive_columns q)
