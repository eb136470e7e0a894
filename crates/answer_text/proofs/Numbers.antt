-- The laws of decimal: its two equations, its digits, its value, so that it tells its number; and the kit's contract gives it. Assumes nothing.
use Prim.Native.Nat.{ℕ, zero, suc, ◌+◌, ◌-◌, ◌*◌, ◌/◌, ◌%◌, ◌^◌, ◌≤◌, ◌<◌}
use mathlib.Core.Path.{◌≡◌, refl, sym, ap, ◌∙◌, subst}
use mathlib.Core.Bool.{Bool, true, false}
use mathlib.Core.List.{List, [], ◌∷◌, ◌++◌, tail-eq_of_cons-eq}
use native.Mathlib.Omega.{arith}
use native.Mathlib.Numerals.{add-one}
use native.Mathlib.Nat.{mod-lt, div-add-mod', div-lt_self, div-lt_iff_lt-mul, le-div_iff_mul-le, pow-suc, mod-eq_of_lt, one-le-pow}
use lib.Dec.{ltb}
use lib.ListN.{length, length-append}
use lib.IntN.{ℤ, pos, negsuc}
use borrow.Author.Tests.{lt-ltb, le-ltb, ltb-true, ltb-false}
use Rattle.io.specs.Digits.{last_digits, hex_digit_ascii, IsDigitCount}
use Rattle.answer_text.specs.Numbers.{places, decimal, signed}

-- by cases on a test
pub by_test : (a b : ℕ) (X : Type 0) → (a < b → X) → (b ≤ a → X) → X
by_test a b X f g = go (ltb a b) refl where
  go : (t : Bool) → ltb a b ≡ t → X
  go true e = f (ltb-true a b e)
  go false e = g (ltb-false a b e)

tenth : (n : ℕ) → 10 ≤ n → n / 10 < n
tenth n h = div-lt_self (omega arith) (omega arith)

-- the first n numbers by their digits
spell_ind : (P : ℕ → Type 0) → ((n : ℕ) → n < 10 → P n) → ((n : ℕ) → 10 ≤ n → P (n / 10) → P n) → (k n : ℕ) → n < k → P n
spell_ind P one more zero n h = absurd (omega arith)
spell_ind P one more (suc k) n h = by_test n 10 (P n) (one n) (λ g. more n g (spell_ind P one more k (n / 10) (omega (arith, tenth n g))))

-- what holds of the numbers below ten, and of a number where it holds of its tenth, holds of every number
pub decimal_ind : (P : ℕ → Type 0) → ((n : ℕ) → n < 10 → P n) → ((n : ℕ) → 10 ≤ n → P (n / 10) → P n) → (n : ℕ) → P n
decimal_ind P one more n = spell_ind P one more (suc n) n (omega arith)

places_one : (k n : ℕ) → n < 10 → places (suc k) n ≡ 1
unfolding places
places_one k n h = rw (lt-ltb n 10 h)

places_more : (k n : ℕ) → 10 ≤ n → places (suc k) n ≡ suc (places k (n / 10))
unfolding places
places_more k n h = rw (le-ltb n 10 h)

-- any bound is enough that exceeds the number
enough : (j k n : ℕ) → n < j → n < k → places j n ≡ places k n
enough zero k n h g = absurd (omega arith)
enough (suc j) zero n h g = absurd (omega arith)
enough (suc j) (suc k) n h g =
    by_test n 10 (places (suc j) n ≡ places (suc k) n)
    (λ l. places_one j n l ∙ sym (places_one k n l))
    (λ l. places_more j n l ∙ ap suc (enough j k (n / 10) (omega (arith, tenth n l)) (omega (arith, tenth n l))) ∙ sym (places_more k n l))

glyph_digit : (d : ℕ) → d < 10 → hex_digit_ascii d ≡ 48 + d
glyph_digit d h = rw (lt-ltb d 10 h)

last_digit : (n : ℕ) → n % 10 < 10
last_digit n = mod-lt n (omega arith)

-- the two equations
pub decimal_one : (n : ℕ) → n < 10 → decimal n ≡ (48 + n) ∷ []
unfolding decimal
decimal_one n h = rw (places_one n n h, mod-eq_of_lt h, glyph_digit n h)

pub decimal_more : (n : ℕ) → 10 ≤ n → decimal n ≡ decimal (n / 10) ++ ((48 + n % 10) ∷ [])
unfolding decimal
decimal_more n h =
    rw (places_more n n h, glyph_digit (n % 10) (last_digit n))
    (ap (λ (k : ℕ). last_digits 10 k (n / 10) ++ ((48 + n % 10) ∷ [])) (enough n (suc (n / 10)) (n / 10) (tenth n h) (omega arith)))

-- every byte is a digit
abbrev pub Digits : List ℕ → Type 0
Digits [] = Unit {0}
Digits (b ∷ d) = (48 ≤ b) × (b < 58) × Digits d

digits_snoc : (d : List ℕ) (b : ℕ) → Digits d → 48 ≤ b → b < 58 → Digits (d ++ (b ∷ []))
digits_snoc [] b h l u = (l, u, tt)
digits_snoc (a ∷ d) b h l u = (h.0, h.1, digits_snoc d b h.2 l u)

pub decimal_digits : (n : ℕ) → Digits (decimal n)
decimal_digits =
    decimal_ind (λ n. Digits (decimal n))
    (λ n h. rw (decimal_one n h) (omega arith, omega arith, tt))
    (λ n h d. rw (decimal_more n h) (digits_snoc (decimal (n / 10)) (48 + n % 10) d (omega arith) (omega (arith, last_digit n))))

-- at least one digit
pub decimal_some : (n : ℕ) → 0 < length (decimal n)
decimal_some n =
    by_test n 10 (0 < length (decimal n))
    (λ h. rw (decimal_one n h) (omega arith))
    (λ h. rw (decimal_more n h, length-append) (omega arith))

-- the first byte is no `0`
abbrev pub Leads : List ℕ → Type 0
Leads [] = ⊥
Leads (b ∷ d) = 48 < b

leads_more : (d e : List ℕ) → Leads d → Leads (d ++ e)
leads_more [] e h = absurd h
leads_more (b ∷ d) e h = h

-- no leading zero, but for 0 itself
pub decimal_leads : (n : ℕ) → 0 < n → Leads (decimal n)
decimal_leads =
    decimal_ind (λ n. 0 < n → Leads (decimal n))
    (λ n h g. rw (decimal_one n h) (omega arith))
    (λ n h d g. rw (decimal_more n h) (leads_more (decimal (n / 10)) ((48 + n % 10) ∷ []) (d ((le-div_iff_mul-le {k = 10} {x = 1} {y = n} (omega arith)).1 (omega arith)))))

pub decimal_zero : decimal 0 ≡ 48 ∷ []
decimal_zero = decimal_one 0 (omega arith)

-- the number that digits stand for
abbrev pub worth : ℕ → List ℕ → ℕ
worth a [] = a
worth a (b ∷ d) = worth (a * 10 + (b - 48)) d

worth_snoc : (a : ℕ) (d : List ℕ) (b : ℕ) → worth a (d ++ (b ∷ [])) ≡ worth a d * 10 + (b - 48)
worth_snoc a [] b = refl
worth_snoc a (c ∷ d) b = worth_snoc (a * 10 + (c - 48)) d b

pub decimal_worth : (n : ℕ) → worth 0 (decimal n) ≡ n
decimal_worth =
    decimal_ind (λ n. worth 0 (decimal n) ≡ n)
    (λ n h. rw (decimal_one n h) (omega arith))
    (λ n h e. rw (decimal_more n h, worth_snoc, e) (omega (arith, div-add-mod' n 10)))

pub decimal_tells : (m n : ℕ) → decimal m ≡ decimal n → m ≡ n
decimal_tells m n e = sym (decimal_worth m) ∙ ap (worth 0) e ∙ decimal_worth n

-- `-` is no digit
signs : (m n : ℕ) → decimal m ≡ 45 ∷ decimal n → ⊥
signs m n e = omega (arith, (subst Digits e (decimal_digits m)).0)

pub signed_tells : (a b : ℤ) → signed a ≡ signed b → a ≡ b
unfolding signed
signed_tells (pos m) (pos n) e = ap pos (decimal_tells m n e)
signed_tells (pos m) (negsuc n) e = absurd (signs m (suc n) e)
signed_tells (negsuc m) (pos n) e = absurd (signs n (suc m) (sym e))
signed_tells (negsuc m) (negsuc n) e = let h = decimal_tells (suc m) (suc n) (tail-eq_of_cons-eq e) in ap negsuc (omega arith)

-- the kit's digits, where they are the fewest, are those of decimal
pub digits_decimal : (k n : ℕ) → IsDigitCount 10 1 n k → last_digits 10 k n ≡ decimal n
digits_decimal zero n f = absurd (omega arith)
digits_decimal (suc zero) n f =
    let h : n < 10 = omega arith in
    rw (decimal_one n h, mod-eq_of_lt h, glyph_digit n h)
digits_decimal (suc (suc k)) n f =
    let few : n < 10 ^ suc k * 10 = rw pow-suc at f.1 in
    let e : suc (suc k) - 1 ≡ suc k = omega arith in
    let d : suc k - 1 ≡ k = omega arith in
    let many : 10 ^ k * 10 ≤ n = rw (e, pow-suc) at (f.2 (omega arith)) in
    let tens : 10 ≤ n = omega (arith, one-le-pow k 10 (omega arith)) in
    rw (decimal_more n tens, glyph_digit (n % 10) (last_digit n))
    (ap (λ (d : List ℕ). d ++ ((48 + n % 10) ∷ []))
    (digits_decimal (suc k) (n / 10) (omega arith, (div-lt_iff_lt-mul (omega arith)).1 few, λ h. rw d ((le-div_iff_mul-le {k = 10} (omega arith)).1 many))))

length_digits : (b k n : ℕ) → length (last_digits b k n) ≡ k
length_digits b zero n = refl
length_digits b (suc k) n = length-append (last_digits b k (n / b)) (hex_digit_ascii (n % b) ∷ []) ∙ ap (λ (j : ℕ). j + 1) (length_digits b k (n / b)) ∙ add-one k

-- and as many
pub decimal_long : (k n : ℕ) → IsDigitCount 10 1 n k → k ≡ length (decimal n)
decimal_long k n f = sym (length_digits 10 k n) ∙ ap length (digits_decimal k n f)
