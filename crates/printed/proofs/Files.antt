-- What a reader of a printed text can rely on: it has the pieces of the rule, and it tells them; neither 4 nor 8 comes of a file. Assumes nothing.
use Prim.Native.Nat.{ℕ, ◌<◌}
use mathlib.Core.Path.{◌≡◌, refl, sym, ap, subst, ◌∙◌}
use mathlib.Core.Logic.{◌↔◌, ◌≢◌, ◌⊎◌, inl, inr}
use mathlib.Core.Bool.{true}
use Rattle.std.specs.declared.option.Option.{Option}
use Rattle.std.specs.declared.option.Option.TheVariants.{None, Some}
use mathlib.Core.List.{List, map, map-map}
use native.Mathlib.Omega.{arith}
use lib.IntN.{ℤ}
use lib.ListN.{length, length-map}
use borrow.Author.Tests.{eqb-true}
use Rattle.rules.specs.Piece.{Range, column, AllWellFormed}
use Rattle.rules.specs.Lists.{instants, lists, tracks}
use Rattle.rules.specs.Answer.{refusal_code}
use Rattle.rules.specs.declared.Refusal.{Refusal as CallRefusal}
use Rattle.rules.specs.declared.Refusal.TheVariants.{Backward, Overlap}
use Rattle.rules.specs.Merged.{Merged}
use Rattle.rules.specs.TwoWay.{paired}
use Rattle.rules.specs.declared.Pairing.{Pairing}
use Rattle.rules.proofs.Refusals.{lists_formed}
use Rattle.many_way_rules.specs.Sheet.{Tariff, lend}
use Rattle.many_way_rules.specs.Operations as operations
use Rattle.many_way_rules.specs.Operations.{rule_of, merged}
use Rattle.many_way_rules.specs.declared.Operation.{Operation}
use Rattle.many_way_rules.specs.declared.Operation.TheVariants.{Join, Select}
use Rattle.many_way_rules.proofs.Condition3.{merged_right, merged_same}
use Rattle.integer.proofs.Laws.{faithful_instants}
use Rattle.multiway.proofs.Calls.{rows, rows_same}
use Rattle.tariff_file.specs.Layout.{Bytes}
use Rattle.tariff_file.specs.File as file
use Rattle.tariff_file.specs.File.{lists_right, combiner_right, Head, Reading, ill_formed, accepted, read}
use Rattle.tariff_file.specs.declared.Refusal.{Refusal}
use Rattle.tariff_file.specs.declared.Refusal.TheVariants.{TooLong, WrongMark, CutShort, LeftOver, UnknownOperation, TooManyLists, NotTwoLists, UnknownCombiner, TooManyRanges}
use Rattle.tariff_file.proofs.Read.{five_or_six}
use Rattle.tariff_file.specs.declared.Task.{Task}
use Rattle.tariff_file.specs.declared.Task.TheVariants.{Pair, Merge, Choose}
use Rattle.tariff_file.proofs.Columns.{kind_of}
use Rattle.answer_text.specs.Answers as text
use Rattle.answer_text.specs.Answers.{Row, row, pair, answer}
use Rattle.answer_text.specs.Lines as lines
use Rattle.answer_text.proofs.Answers.{rows_tell, pairs_tell, paired_tells}
use Rattle.printed.specs.Printed.{answered, asked, performed, merged_answer, printed}
use Rattle.printed.proofs.Accepted.{Accepted, sound, judged, formed_lists}
use Rattle.printed.proofs.Answers.{row_of, pair_of, place_value, merged_answered, paired_answered}

-- the many-way operation that a task is, with its combiner
abbrev pub many_way : Task → ℕ → Option Operation
many_way (Pair p) c = None
many_way (Merge a) c = Some (Join a c)
many_way (Choose p a) c = Some (Select p a)

abbrev pub two_way : Task → Option Pairing
two_way (Pair p) = Some p
two_way (Merge a) = None
two_way (Choose p a) = None

module _ {b : List ℕ} {h : Head} {ls : List (Tariff ℤ)} (a : Accepted b h ls) where
  performs : answered (read b) ≡ performed h (sound a).task (lend ls)
  performs = ap answered a.reading ∙ ap (λ t. asked h t (lend ls)) (sound a).operation_known

  long : length (lend ls).counts ≡ length ls
  long = length-map ls length

  -- a file of a two-way operation prints a row for each of its pieces
  module _ (p : Pairing) (m : two_way (sound a).task ≡ Some p) where
    as_pair : (sound a).task ≡ Pair p
    as_pair = go (sound a).task m
      where
        go : (t : Task) → two_way t ≡ Some p → t ≡ Pair p
        go (Pair q) e = let s : q ≡ p = cc in ap Pair s
        go (Merge a) e = absurd (let no : ◌≡◌ {A = ℕ} 0 1 = cc in omega arith)
        go (Choose q a) e = absurd (let no : ◌≡◌ {A = ℕ} 0 1 = cc in omega arith)

    -- its pieces, with the values of their sides
    abbrev pub valued : List text.Pair
    valued = map (pair_of (place_value h (lend ls))) (paired p instants.points (tracks instants (lend ls)))

    pub two_way_printed : printed b ≡ answer (text.paired h.operation h.combiner (length ls) valued)
    unfolding printed
    two_way_printed =
        ap answer
        (performs
        ∙ ap (λ t. performed h t (lend ls)) as_pair
        ∙ paired_answered h (lend ls) p (rw as_pair at (judged a)) (rw as_pair at (formed_lists a))
        ∙ ap (λ (n : ℕ). text.paired h.operation h.combiner n valued) long)

    two_lists : length ls ≡ 2
    two_lists = eqb-true (length ls) 2 (subst (λ t. lists_right t (length ls) ≡ true) as_pair (sound a).right_lists)

    no_combiner : h.combiner ≡ 0
    no_combiner = eqb-true h.combiner 0 (subst (λ t. combiner_right t h.combiner ≡ true) as_pair (sound a).right_combiner)

  -- and one of a many-way operation
  module _ (o : Operation) (m : many_way (sound a).task h.combiner ≡ Some o) where
    abbrev pub pieces : List Range
    pieces = merged o instants.points (lists instants (lend ls))

    same_kind : kind_of (sound a).task h.combiner ≡ operations.kind_of o
    same_kind = go (sound a).task m
      where
        go : (t : Task) → many_way t h.combiner ≡ Some o → kind_of t h.combiner ≡ operations.kind_of o
        go (Pair q) e = absurd (let no : ◌≡◌ {A = ℕ} 0 1 = cc in omega arith)
        go (Merge a) e = let s : Join a h.combiner ≡ o = cc in ap operations.kind_of s
        go (Choose q a) e = let s : Select q a ≡ o = cc in ap operations.kind_of s

    as_many : performed h (sound a).task (lend ls) ≡ merged_answer h o (lend ls)
    as_many = go (sound a).task m
      where
        go : (t : Task) → many_way t h.combiner ≡ Some o → performed h t (lend ls) ≡ merged_answer h o (lend ls)
        go (Pair q) e = absurd (let no : ◌≡◌ {A = ℕ} 0 1 = cc in omega arith)
        go (Merge a) e = let s : Join a h.combiner ≡ o = cc in ap (λ (o : Operation). merged_answer h o (lend ls)) s
        go (Choose q a) e = let s : Select q a ≡ o = cc in ap (λ (o : Operation). merged_answer h o (lend ls)) s

    pub formed_many : AllWellFormed instants.points (lists instants (lend ls))
    formed_many = lists_formed (rw same_kind at (formed_lists a))

    pub many_way_printed : printed b ≡ answer (text.merged h.operation h.combiner (length ls) (map row_of pieces))
    unfolding printed
    many_way_printed =
        ap answer
        (performs
        ∙ as_many
        ∙ merged_answered h (lend ls) o (rw same_kind at (judged a)) (rw same_kind at (formed_lists a))
        ∙ ap (λ (n : ℕ). text.merged h.operation h.combiner n (map row_of pieces)) long)

-- rows as columns
abbrev columns : List Row → Merged ℤ
columns rs = record { start = map (λ r. r.start) rs; end = map (λ r. r.end) rs; value = map (λ r. r.value) rs }

columns_of : (xs : List Range) → columns (map row_of xs) ≡ rows faithful_instants xs
columns_of xs j = record { start = map-map (λ (r : Row). r.start) row_of xs j; end = map-map (λ (r : Row). r.end) row_of xs j; value = map-map (λ (r : Row). r.value) row_of xs j }

-- two files of many-way operations print the same rows exactly when their rules agree at every point, however their lists were cut up
module _ {b b' : List ℕ} {h h' : Head} {ls ls' : List (Tariff ℤ)} (a : Accepted b h ls) (a' : Accepted b' h' ls') where
  module _ (o o' : Operation) (m : many_way (sound a).task h.combiner ≡ Some o) (m' : many_way (sound a').task h'.combiner ≡ Some o') where
    told_rows : lines.text (map row (map row_of (pieces a o m))) ≡ lines.text (map row (map row_of (pieces a' o' m'))) → pieces a o m ≡ pieces a' o' m'
    told_rows e =
        let r = (rows_tell (map row_of (pieces a o m)) (map row_of (pieces a' o' m'))).0 e in
        rows_same faithful_instants 0 0 (pieces a o m) (pieces a' o' m')
        (merged_right instants.points o (lists instants (lend ls)) (formed_many a o m)).ascending
        (merged_right instants.points o' (lists instants (lend ls')) (formed_many a' o' m')).ascending
        (sym (columns_of (pieces a o m)) ∙ ap columns r ∙ columns_of (pieces a' o' m'))

    pub same_rows : (lines.text (map row (map row_of (pieces a o m))) ≡ lines.text (map row (map row_of (pieces a' o' m'))))
        ↔ ((p : ℕ) → p < instants.points → rule_of o (column (lists instants (lend ls)) p) ≡ rule_of o' (column (lists instants (lend ls')) p))
    same_rows =
        let same = merged_same instants.points o (lists instants (lend ls)) (formed_many a o m) o' (lists instants (lend ls')) (formed_many a' o' m') in
        (λ e. same.0 (told_rows e), λ e. ap (λ (xs : List Range). lines.text (map row (map row_of xs))) (same.1 e))

  -- two of two-way operations, exactly when they have the same pieces; of one operation, so do their whole texts
  module _ (p p' : Pairing) (m : two_way (sound a).task ≡ Some p) (m' : two_way (sound a').task ≡ Some p') where
    pub same_pairs : (lines.text (map pair (valued a p m)) ≡ lines.text (map pair (valued a' p' m'))) ↔ (valued a p m ≡ valued a' p' m')
    same_pairs = pairs_tell (valued a p m) (valued a' p' m')

    pub same_printed : h.operation ≡ h'.operation → (printed b ≡ printed b') ↔ (valued a p m ≡ valued a' p' m')
    same_printed o =
        let combiners = no_combiner a p m ∙ sym (no_combiner a' p' m') in
        let counts = two_lists a p m ∙ sym (two_lists a' p' m') in (
          λ e. let t = paired_tells _ _ _ _ _ _ (valued a p m) (valued a' p' m') (sym (two_way_printed a p m) ∙ e ∙ two_way_printed a' p' m') in cc,
          λ e. two_way_printed a p m ∙ (λ i. answer (text.paired (o i) (combiners i) (counts i) (e i))) ∙ sym (two_way_printed a' p' m'),
        )

-- 4 and 8 are no codes of a file
codes : (r : Refusal) → (file.code_of r ≢ 4) × (file.code_of r ≢ 8)
codes TooLong = (λ e. omega arith, λ e. omega arith)
codes (WrongMark at) = (λ e. omega arith, λ e. omega arith)
codes (CutShort at) = (λ e. omega arith, λ e. omega arith)
codes (LeftOver at) = (λ e. omega arith, λ e. omega arith)
codes (UnknownOperation at) = (λ e. omega arith, λ e. omega arith)
codes (TooManyLists at) = (λ e. omega arith, λ e. omega arith)
codes (NotTwoLists at) = (λ e. omega arith, λ e. omega arith)
codes (UnknownCombiner at) = (λ e. omega arith, λ e. omega arith)
codes (TooManyRanges at) = (λ e. omega arith, λ e. omega arith)

-- no refusal where the pieces are
merged_no_refusal : (o c l d m : ℕ) (rs : List Row) → text.merged o c l rs ≡ text.refused d m → ⊥
merged_no_refusal o c l d m rs e = let no : ◌≡◌ {A = ℕ} 0 1 = cc in omega arith

paired_no_refusal : (o c l d m : ℕ) (ps : List text.Pair) → text.paired o c l ps ≡ text.refused d m → ⊥
paired_no_refusal o c l d m ps e = let no : ◌≡◌ {A = ℕ} 0 1 = cc in omega arith

module _ (b : List ℕ) (y : Bytes b) (c n : ℕ) where
  -- a file that is accepted is joined, never refused by the join
  pub accepted_joined : {h : Head} {ls : List (Tariff ℤ)} → Accepted b h ls → answered (read b) ≡ text.refused c n → ⊥
  accepted_joined {h} {ls} a q = go (sound a).task refl
    where
      answers : (t : Task) → (sound a).task ≡ t → performed h t (lend ls) ≡ text.refused c n
      answers t i = ap (λ t. performed h t (lend ls)) (sym i) ∙ sym (performs a) ∙ q

      go : (t : Task) → (sound a).task ≡ t → ⊥
      go (Pair p) i = paired_no_refusal _ _ _ c n _ (sym (paired_answered h (lend ls) p (rw i at (judged a)) (rw i at (formed_lists a))) ∙ answers (Pair p) i)
      go (Merge d) i = merged_no_refusal _ _ _ c n _ (sym (merged_answered h (lend ls) (Join d h.combiner) (rw i at (judged a)) (rw i at (formed_lists a))) ∙ answers (Merge d) i)
      go (Choose p d) i = merged_no_refusal _ _ _ c n _ (sym (merged_answered h (lend ls) (Select p d) (rw i at (judged a)) (rw i at (formed_lists a))) ∙ answers (Choose p d) i)

  pub no_code_4_or_8 : answered (read b) ≡ text.refused c n → (c ≢ 4) × (c ≢ 8)
  no_code_4_or_8 q = go (read b) refl q
    where
      code : (a : CallRefusal) → ((i : ℕ) × ((a ≡ Backward i) ⊎ (a ≡ Overlap i))) → refusal_code a ≡ c → (c ≢ 4) × (c ≢ 8)
      code a (i, inl e) h = let z = ap refusal_code e in (λ f. omega arith, λ f. omega arith)
      code a (i, inr e) h = let z = ap refusal_code e in (λ f. omega arith, λ f. omega arith)

      go : (r : Reading) → read b ≡ r → answered r ≡ text.refused c n → (c ≢ 4) × (c ≢ 8)
      go (file.refused r) e q = let z : file.code_of r ≡ c = cc in (λ f. (codes r).0 (z ∙ f), λ f. (codes r).1 (z ∙ f))
      go (ill_formed a) e q = let z : refusal_code a ≡ c = cc in code a (five_or_six b y a e) z
      go (accepted h ls) e q = absurd (accepted_joined (record { bytes = y; reading = e }) (ap answered e ∙ q))
