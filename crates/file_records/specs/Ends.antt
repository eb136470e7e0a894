-- How reading what is left of a file ends, as code answers it. Assumes nothing.
use Rattle.std.specs.Prelude.{ℕ, ◌+◌, ◌≡◌, drop}
use Rattle.std.specs.declared.result.Result.{Result}
use Rattle.std.specs.declared.result.Result.TheVariants.{Ok, Err}
use Rattle.tariff_file.specs.Layout.{Layout, Held, sizes, values}
use Rattle.tariff_file.specs.Reader.{Parsed, stop, got, Reader, Fault, judged, one}
use Rattle.tariff_file.specs.declared.Refusal.{Refusal}
use Rattle.file_records.specs.declared.rest.Rest.{Rest}

-- what p reads of what is left
abbrev pub reads : {A : Type 0} → Reader A → Rest → Parsed A
reads p from = p from.at from.bytes.now

-- p read what is left: what it gives, of which Put tells, and the rest, or a refusal
module _ {A : Type 0} (p : Reader A) (from : Rest) (Put : A → Type 0) where
  pub record Got (rest : Rest) : Type 0 where
    pub value : A
    pub read : reads p from ≡ got value rest.at rest.bytes.now
    pub put : Put value

  abbrev pub Ends : Result Rest Refusal → Type 0
  Ends (Ok rest) = Got rest
  Ends (Err x) = reads p from ≡ stop x

-- a record whose mark and bytes are there has its values judged
abbrev pub Looked : (l : Layout) → (Held l → Fault) → Rest → Result Rest Refusal → Type 0
Looked l asked from (Ok rest) = reads (one l asked) from ≡ (let v = values l.fields (drop 2 from.bytes.now) in judged (asked v) from.at (got v rest.at rest.bytes.now))
Looked l asked from (Err x) = reads (one l asked) from ≡ stop x

-- whatever record begins with 4A and `second` and has so many bytes
abbrev pub Marked : Rest → ℕ → ℕ → Result Rest Refusal → Type 0
Marked from second size r = (l : Layout) (asked : Held l → Fault) → l.first ≡ 0x4A → l.second ≡ second → 2 + sizes l.fields ≡ size → Looked l asked from r
