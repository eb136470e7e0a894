-- One law for a field: its bytes give its value back, and bytes are those of the value that they give. Assumes nothing.
use Prim.Native.Nat.{ℕ, zero, suc, ◌+◌, ◌*◌, ◌-◌, ◌/◌, ◌%◌, ◌^◌, ◌<◌}
use mathlib.Core.Path.{◌≡◌, refl, ap, ◌∙◌}
use mathlib.Core.Bool.{Bool, true, false, cond}
use mathlib.Core.List.{List, [], ◌∷◌}
use native.Mathlib.Omega.{arith}
use native.Mathlib.Nat.{pow-suc, pow-succ', mod-lt, div-add-mod', div-lt_iff_lt-mul, mul-add-div_right, mul-add-mod_self_right, div-eq_of_lt, mod-eq_of_lt, mul-le-mul_right}
use lib.Dec.{ltb}
use lib.IntN.{ℤ, pos, negsuc}
use lib.Signed.{mag}
use lib.ListN.{length}
use borrow.Author.Tests.{ltb-true, ltb-false, lt-ltb, le-ltb}
use Rattle.tariff_file.specs.Layout.{Bytes, number, digits, half, bits, integer, Field, unsigned, signed, size, Value, Holds, field_bytes, field_value}

some_power : (n : ℕ) → 0 < 256 ^ n
some_power zero = omega arith
some_power (suc n) = omega (arith, pow-suc 256 n, some_power n)

pub digits_long : (n x : ℕ) → length (digits n x) ≡ n
unfolding digits
digits_long zero x = refl
digits_long (suc n) x = ap suc (digits_long n (x % 256 ^ n))

pub number_digits : (n x : ℕ) → x < 256 ^ n → number (digits n x) ≡ x
unfolding digits number
number_digits zero x h = omega arith
number_digits (suc n) x h =
    let m = x % 256 ^ n in
    (λ i. x / 256 ^ n * 256 ^ digits_long n m i + number_digits n m (mod-lt x (some_power n)) i) ∙ div-add-mod' x (256 ^ n)

pub number_lt : (b : List ℕ) → Bytes b → number b < 256 ^ length b
unfolding number
number_lt [] y = omega arith
number_lt (x ∷ b) y = omega (arith, pow-suc 256 (length b), number_lt b y.1, mul-le-mul_right (256 ^ length b) y.0)

pub digits_number : (b : List ℕ) → Bytes b → digits (length b) (number b) ≡ b
unfolding digits number
digits_number [] y = refl
digits_number (x ∷ b) y =
    let p = 256 ^ length b in
    let l = number_lt b y.1 in
    let q : (x * p + number b) / p ≡ x = mul-add-div_right (some_power (length b)) x (number b) ∙ omega (arith, div-eq_of_lt l) in
    let m : (x * p + number b) % p ≡ number b = mul-add-mod_self_right x p (number b) ∙ mod-eq_of_lt l in
    rw (q, m, digits_number b y.1)

pub digits_bytes : (n x : ℕ) → x < 256 ^ n → Bytes (digits n x)
unfolding digits
digits_bytes zero x h = tt
digits_bytes (suc n) x h = ((div-lt_iff_lt-mul (some_power n)).1 (rw (pow-succ' 256 n) at h), digits_bytes n (x % 256 ^ n) (mod-lt x (some_power n)))

-- two's complement
even : (n : ℕ) → 0 < n → 256 ^ n ≡ 2 * half n
even zero h = omega arith
even (suc n) h = omega (arith, pow-suc 256 n)

module _ (n : ℕ) (some : 0 < n) where
  pub bits_lt : (z : ℤ) → mag z < half n → bits n z < 256 ^ n
  unfolding bits
  bits_lt (pos x) h = omega (arith, even n some)
  bits_lt (negsuc x) h = omega (arith, even n some)

  pub integer_bits : (z : ℤ) → mag z < half n → integer n (bits n z) ≡ z
  unfolding bits integer
  integer_bits (pos x) h = simp (lt-ltb x (half n) h)
  integer_bits (negsuc x) h =
      let p = 256 ^ n in
      let back : p - suc (p - suc x) ≡ x = omega (arith, even n some) in
      (λ i. cond (le-ltb (p - suc x) (half n) (omega (arith, even n some)) i) (pos (p - suc x)) (negsuc (back i)))

  pub bits_integer : (x : ℕ) → x < 256 ^ n → (bits n (integer n x) ≡ x) × (mag (integer n x) < half n)
  unfolding bits integer
  bits_integer x h = go (ltb x (half n)) refl
    where
      go : (t : Bool) → ltb x (half n) ≡ t → (bits n (cond t (pos x) (negsuc (256 ^ n - suc x))) ≡ x) × (mag (cond t (pos x) (negsuc (256 ^ n - suc x))) < half n)
      go true e = (refl, ltb-true x (half n) e)
      go false e = omega (arith, even n some, ltb-false x (half n) e)

-- a signed field has a byte
abbrev pub Sized : Field → Type 0
Sized (unsigned n) = Unit {0}
Sized (signed n) = 0 < n

pub field_long : (f : Field) (x : Value f) → length (field_bytes f x) ≡ size f
unfolding field_bytes
field_long (unsigned n) x = digits_long n x
field_long (signed n) z = digits_long n (bits n z)

pub field_back : (f : Field) → Sized f → (x : Value f) → Holds f x → field_value f (field_bytes f x) ≡ x
unfolding field_bytes field_value
field_back (unsigned n) s x h = number_digits n x h
field_back (signed n) s z h = rw (number_digits n (bits n z) (bits_lt n s z h)) (integer_bits n s z h)

pub field_exact : (f : Field) → Sized f → (b : List ℕ) → Bytes b → length b ≡ size f → (field_bytes f (field_value f b) ≡ b) × Holds f (field_value f b)
unfolding field_bytes field_value
field_exact (unsigned n) s b y e = (rw (← e) (digits_number b y), rw (← e) (number_lt b y))
field_exact (signed n) s b y e =
    let l : number b < 256 ^ n = rw e at (number_lt b y) in
    let back = bits_integer n s (number b) l in
    (rw back.0 (rw e at (digits_number b y)), back.1)

pub field_are_bytes : (f : Field) → Sized f → (x : Value f) → Holds f x → Bytes (field_bytes f x)
unfolding field_bytes
field_are_bytes (unsigned n) s x h = digits_bytes n x h
field_are_bytes (signed n) s z h = digits_bytes n (bits n z) (bits_lt n s z h)
