-- For code that reads a slice: a number byte by byte, its bytes, and records in turn. Assumes nothing.
use Prim.Native.Nat.{ℕ, zero, suc, ◌+◌, ◌*◌, ◌^◌, ◌<◌}
use mathlib.Core.Path.{◌≡◌, refl, sym, ap, ◌∙◌}
use mathlib.Core.List.{List, [], ◌∷◌, ◌++◌, append_assoc}
use native.Mathlib.Omega.{arith}
use native.Mathlib.Nat.{pow-suc}
use native.Mathlib.Numerals.{add-one}
use lib.ListN.{length, get_or, take, drop, length-append, length-drop}
use lib.Seq.{take-suc, get_or-drop}
use Rattle.tariff_file.specs.Layout.{Bytes, number}
use Rattle.tariff_file.specs.Reader.{Parsed, stop, got, Reader, follow, ◌then◌, many}
use Rattle.tariff_file.specs.declared.Refusal.{Refusal}

-- one more byte of a number
number_snoc : (b : List ℕ) (x : ℕ) → number (b ++ (x ∷ [])) ≡ number b * 256 + x
unfolding number
number_snoc [] x = omega arith
number_snoc (a ∷ b) x =
    let l : length (b ++ (x ∷ [])) ≡ suc (length b) = length-append b (x ∷ []) ∙ add-one (length b) in
    let e : a * 256 ^ length (b ++ (x ∷ [])) ≡ a * (256 ^ length b * 256) = ap (λ (n : ℕ). a * 256 ^ n) l ∙ ap (λ (n : ℕ). a * n) (pow-suc 256 (length b)) in
    omega (arith, e, number_snoc b x)

pub number_more : (s : List ℕ) (k j : ℕ) → k + j < length s → number (take (suc j) (drop k s)) ≡ number (take j (drop k s)) * 256 + get_or s (k + j) 0
number_more s k j h =
    ap number (take-suc (drop k s) j 0 (omega (arith, length-drop k s)))
    ∙ number_snoc (take j (drop k s)) (get_or (drop k s) j 0)
    ∙ ap (λ (x : ℕ). number (take j (drop k s)) * 256 + x) (get_or-drop k s j 0)

pub number_start : (s : List ℕ) (k : ℕ) → number (take 0 (drop k s)) ≡ 0
unfolding number
number_start s k = refl

-- a slice of u8 is bytes, and so is what is left of it
pub bytes_of : (s : List ℕ) → ((i : ℕ) → get_or s i 0 < 256) → (at : ℕ) → Bytes (drop at s)
bytes_of s h zero = all s h
  where
    all : (s : List ℕ) → ((i : ℕ) → get_or s i 0 < 256) → Bytes s
    all [] h = tt
    all (x ∷ s) h = (h 0, all s (λ i. h (suc i)))
bytes_of [] h (suc at) = tt
bytes_of (x ∷ s) h (suc at) = bytes_of s (λ i. h (suc i)) at

-- records in turn: one that is refused stops them
module _ {A S : Type 0} (p : S → Reader A) (next : S → A → S) where
  pub many_stop : (n : ℕ) (s : S) (at : ℕ) (b : List ℕ) (r : Refusal) → p s at b ≡ stop r → many p next (suc n) s at b ≡ stop r
  many_stop n s at b r e = ap (λ r. follow r (λ x. many p next n (next s x) then (λ xs. got (x ∷ xs)))) e

-- and with what is read: the front that is done, before what is to come
module _ {A S : Type 0} (p : S → Reader A) (next : S → A → S) where
  abbrev pub after : List A → Parsed (List A) → Parsed (List A)
  after done (stop r) = stop r
  after done (got xs at b) = got (done ++ xs) at b

  after_cons : (done : List A) (a : A) (r : Parsed (List A)) → after done (follow r (λ xs. got (a ∷ xs))) ≡ after (done ++ (a ∷ [])) r
  after_cons done a (stop r) = refl
  after_cons done a (got xs at b) = ap (λ (l : List A). got l at b) (sym (append_assoc done (a ∷ []) xs))

  pub many_after : (n : ℕ) (s : S) (at : ℕ) (b : List ℕ) (a : A) (past : ℕ) (more : List ℕ) (done : List A) → p s at b ≡ got a past more →
      after done (many p next (suc n) s at b) ≡ after (done ++ (a ∷ [])) (many p next n (next s a) past more)
  many_after n s at b a past more done e = ap (λ r. after done (follow r (λ x. many p next n (next s x) then (λ xs. got (x ∷ xs))))) e ∙ after_cons done a (many p next n (next s a) past more)
