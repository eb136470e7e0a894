-- The file of 58 bytes of docs/FILE.md, and files that are refused: what is read of each beside what is to be. Assumes nothing.
use Rattle.std.specs.Prelude.{ℕ, List, [], ◌∷◌, ◌++◌, ℤ, pos, negsuc, take, drop, set, replicate}
use Rattle.many_way_rules.specs.Sheet.{Typed, Tariff}
use Rattle.tariff_file.specs.File.{Head, Reading, refused, ill_formed, accepted}
use Rattle.rules.specs.declared.Refusal.TheVariants.{Backward}
use Rattle.tariff_file.specs.declared.Refusal.TheVariants.{TooLong, WrongMark, CutShort, LeftOver, UnknownOperation, TooManyLists, NotTwoLists, UnknownCombiner, TooManyRanges}

abbrev pub example : List ℕ
example =
    0x4A ∷ 0x48 ∷ 0x05 ∷ 0x01 ∷ 0x00 ∷ 0x02
    ∷ 0x4A ∷ 0x4C ∷ 0x00 ∷ 0x01
    ∷ 0x4A ∷ 0x52 ∷ 0 ∷ 0 ∷ 0 ∷ 0 ∷ 0 ∷ 0 ∷ 0 ∷ 0x01 ∷ 0 ∷ 0 ∷ 0 ∷ 0 ∷ 0 ∷ 0 ∷ 0 ∷ 0x05 ∷ 0 ∷ 0 ∷ 0 ∷ 0x64
    ∷ 0x4A ∷ 0x4C ∷ 0x00 ∷ 0x01
    ∷ 0x4A ∷ 0x52 ∷ 0 ∷ 0 ∷ 0 ∷ 0 ∷ 0 ∷ 0 ∷ 0 ∷ 0x05 ∷ 0 ∷ 0 ∷ 0 ∷ 0 ∷ 0 ∷ 0 ∷ 0 ∷ 0x09 ∷ 0 ∷ 0 ∷ 0 ∷ 0x14
    ∷ []

abbrev pub range : ℤ → ℤ → ℤ → Typed ℤ ℤ
range s e v = record { start = s; end = e; value = v }

abbrev pub head : ℕ → ℕ → Head
head o c = record { operation = o; combiner = c }

-- [start..end:value]
abbrev pub example_lists : List (Tariff ℤ)
example_lists = (range (pos 1) (pos 5) (pos 100) ∷ []) ∷ (range (pos 5) (pos 9) (pos 20) ∷ []) ∷ []

-- a head alone; the range from the least instant to -1, with the value -2
abbrev pub lone : ℕ → ℕ → ℕ → List ℕ
lone o c n = 0x4A ∷ 0x48 ∷ o ∷ c ∷ 0 ∷ n ∷ []

abbrev pub negative : List ℕ
negative = lone 6 0 1 ++ (0x4A ∷ 0x4C ∷ 0 ∷ 1 ∷ 0x4A ∷ 0x52 ∷ 128 ∷ 0 ∷ 0 ∷ 0 ∷ 0 ∷ 0 ∷ 0 ∷ 0 ∷ 255 ∷ 255 ∷ 255 ∷ 255 ∷ 255 ∷ 255 ∷ 255 ∷ 255 ∷ 255 ∷ 255 ∷ 255 ∷ 254 ∷ [])

pub record Row : Type 0 where
  pub file : List ℕ
  pub want : Reading

abbrev pub row : List ℕ → Reading → Row
row b r = record { file = b; want = r }

abbrev pub rows : List Row
rows =
    row example (accepted (head 5 1) example_lists)
    ∷ row (lone 4 5 0) (accepted (head 4 5) [])
    ∷ row negative (accepted (head 6 0) ((range (negsuc 9223372036854775807) (negsuc 0) (negsuc 1) ∷ []) ∷ []))
    -- a lone first byte is cut short, and so is none
    ∷ row [] (refused (CutShort 0))
    ∷ row (0 ∷ []) (refused (CutShort 0))
    -- the mark is judged before shortness
    ∷ row (0x4A ∷ 0x4C ∷ []) (refused (WrongMark 0))
    ∷ row (0x4A ∷ 0x48 ∷ 9 ∷ []) (refused (CutShort 0))
    -- 13, 1, 2, 7 in this order
    ∷ row (lone 0 9 17) (refused (UnknownOperation 0))
    ∷ row (lone 8 0 0) (refused (UnknownOperation 0))
    ∷ row (lone 1 9 17) (refused (TooManyLists 0))
    ∷ row (lone 3 9 1) (refused (NotTwoLists 0))
    ∷ row (lone 3 1 2) (refused (UnknownCombiner 0))
    ∷ row (lone 5 0 2) (refused (UnknownCombiner 0))
    ∷ row (lone 6 1 2) (refused (UnknownCombiner 0))
    -- a record that would start at the end of the file
    ∷ row (lone 5 1 2) (refused (CutShort 6))
    ∷ row (take 36 example) (refused (CutShort 36))
    ∷ row (take 35 example) (refused (CutShort 32))
    ∷ row (take 57 example) (refused (CutShort 36))
    ∷ row (set example 32 0) (refused (WrongMark 32))
    ∷ row (take 12 (set example 11 0x4C)) (refused (WrongMark 10))
    -- 3 at the list that takes the total over, before its ranges
    ∷ row (set (set example 34 8) 35 0) (refused (TooManyRanges 32))
    ∷ row (set (set example 34 7) 35 255) (refused (CutShort 58))
    ∷ row (lone 5 1 3 ++ (take 26 (drop 6 example) ++ (0x4A ∷ 0x4C ∷ 0 ∷ 0 ∷ 0x4A ∷ 0x4C ∷ 8 ∷ 0 ∷ []))) (refused (TooManyRanges 36))
    ∷ row (example ++ (0x4A ∷ [])) (refused (LeftOver 58))
    -- 5 and 6 after 12, by the flat index
    ∷ row (set example 41 10) (ill_formed (Backward 1))
    ∷ row (set example 41 10 ++ (0x4A ∷ [])) (refused (LeftOver 58))
    ∷ row (replicate 45126 0) (refused (WrongMark 0))
    ∷ row (replicate 45127 0) (refused TooLong)
    ∷ []
