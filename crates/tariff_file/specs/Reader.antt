-- Reading records in turn: mark and shortness, then what is asked of a record's values; a refusal gives the record's offset. Assumes nothing.
use Rattle.std.specs.Prelude.{ℕ, zero, suc, ◌+◌, ◌-◌, cond, ◌&&◌, List, [], ◌∷◌, ltb, leb, eqb, length, drop}
use Rattle.std.specs.declared.option.Option.{Option}
use Rattle.std.specs.declared.option.Option.TheVariants.{None, Some}
use Rattle.tariff_file.specs.Layout.{Layout, Held, sizes, values}
use Rattle.tariff_file.specs.declared.Refusal.{Refusal}
use Rattle.tariff_file.specs.declared.Refusal.TheVariants.{WrongMark, CutShort}

-- a refusal, or what is read, the offset after it and the bytes from there on
pub data Parsed (A : Type 0) : Type 0 where
  stop : Refusal → Parsed A
  got : A → ℕ → List ℕ → Parsed A

-- from an offset and the bytes from there on
abbrev pub Reader : Type 0 → Type 0
Reader A = ℕ → List ℕ → Parsed A

-- a fault of a record, said of its offset
abbrev pub Fault : Type 0
Fault = Option (ℕ → Refusal)

module _ {A : Type 0} where
  abbrev pub judged : Fault → ℕ → Parsed A → Parsed A
  judged None at next = next
  judged (Some r) at next = stop (r at)

  module _ {B : Type 0} where
    abbrev pub follow : Parsed A → (A → Reader B) → Parsed B
    follow (stop r) k = stop r
    follow (got a at b) k = k a at b

    infixr 1 ◌then◌
    abbrev pub ◌then◌ : Reader A → (A → Reader B) → Reader B
    ◌then◌ p k at b = follow (p at b) k

-- a record; with two bytes there the mark is judged first, then shortness, then its values
unfoldable pub one : (l : Layout) → (Held l → Fault) → Reader (Held l)
unfolding values
one l asked at [] = stop (CutShort at)
one l asked at (x ∷ []) = stop (CutShort at)
one l asked at (x ∷ y ∷ b) =
    let n = sizes l.fields in
    let v = values l.fields b in
    let fine = judged (asked v) at (got v (at + (2 + n)) (drop n b)) in
    cond (eqb x l.first && eqb y l.second) (cond (leb n (length b)) fine (stop (CutShort at))) (stop (WrongMark at))

-- n in turn, with what is known of those before
module _ {A S : Type 0} (p : S → Reader A) (next : S → A → S) where
  abbrev pub many : ℕ → S → Reader (List A)
  many zero s = got []
  many (suc n) s = p s then (λ a. many n (next s a) then (λ xs. got (a ∷ xs)))

-- the offset of the record that place n falls in
abbrev pub record_at : ℕ → List (List ℕ) → ℕ
record_at n [] = 0
record_at n (r ∷ rs) = cond (ltb n (length r)) 0 (length r + record_at (n - length r) rs)
