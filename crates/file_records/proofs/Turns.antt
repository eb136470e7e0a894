-- A loop over records of one kind: what is done stands before what is to come. Assumes nothing.
use Prim.Native.Nat.{ℕ, suc, ◌+◌, ◌-◌, ◌≤◌, ◌<◌}
use mathlib.Core.Path.{◌≡◌, refl, sym, ap, ◌∙◌}
use mathlib.Core.List.{List, [], ◌∷◌, ◌++◌, append-nil}
use native.Mathlib.Omega.{arith}
use native.Mathlib.Nat.{sub-zero}
use lib.ListN.{length, length-append}
use Rattle.tariff_file.specs.Reader.{Parsed, stop, got, Reader, many}
use Rattle.tariff_file.specs.declared.Refusal.{Refusal}
use Rattle.tariff_file.proofs.Places.{after, many_after, many_stop}
use Rattle.file_records.specs.Ends.{reads}
use Rattle.file_records.specs.declared.rest.Rest.{Rest}

module _ {A S : Type 0} (p : S → Reader A) (next : S → A → S) (n : ℕ) (first : S) (from : Rest) where
  abbrev all : Parsed (List A)
  all = reads (many p next n first) from

  abbrev left : ℕ → S → Rest → Parsed (List A)
  left i now rest = reads (many p next (n - i) now) rest

  -- i of the n that start at `from` are done, and `rest` is left
  pub record Going (i : ℕ) (done : List A) (now : S) (rest : Rest) : Type 0 where
    pub few : i ≤ n
    pub long : length done ≡ i
    pub on : all ≡ after p next done (left i now rest)

  after_none : (r : Parsed (List A)) → after p next [] r ≡ r
  after_none (stop x) = refl
  after_none (got xs at b) = refl

  pub going_first : Going 0 [] first from
  going_first = record { few = omega arith; long = refl; on = sym (after_none (left 0 first from) ∙ ap (λ (k : ℕ). reads (many p next k first) from) (sub-zero n)) }

  module _ {i : ℕ} {done : List A} {now : S} {rest : Rest} (g : Going i done now rest) where
    -- at least one is to come
    left_more : i < n → left i now rest ≡ reads (many p next (suc (n - (i + 1))) now) rest
    left_more h = let z : n - i ≡ suc (n - (i + 1)) = omega arith in ap (λ (k : ℕ). reads (many p next k now) rest) z

    pub going_more : i < n → (a : A) (past : Rest) → reads (p now) rest ≡ got a past.at past.bytes.now → Going (i + 1) (done ++ (a ∷ [])) (next now a) past
    going_more h a past e =
        record {
          few = omega arith;
          long = length-append done (a ∷ []) ∙ ap (λ (k : ℕ). k + 1) g.long;
          on = g.on ∙ ap (after p next done) (left_more h) ∙ many_after p next (n - (i + 1)) now rest.at rest.bytes.now a past.at past.bytes.now done e;
        }

    pub going_stops : i < n → (x : Refusal) → reads (p now) rest ≡ stop x → all ≡ stop x
    going_stops h x e = g.on ∙ ap (after p next done) (left_more h ∙ many_stop p next (n - (i + 1)) now rest.at rest.bytes.now x e)

    pub going_last : n ≤ i → all ≡ got done rest.at rest.bytes.now
    going_last h =
        let z : n - i ≡ 0 = omega arith in
        g.on ∙ ap (λ (k : ℕ). after p next done (reads (many p next k now) rest)) z ∙ ap (λ l. got l rest.at rest.bytes.now) (append-nil done)
