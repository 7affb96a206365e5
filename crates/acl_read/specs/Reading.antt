-- A reader, seen as the bytes that were fed and not yet taken.
use Rattle.std.specs.Prelude.{◌≡◌, ℕ, ◌+◌, ◌-◌, ◌≤◌, List, [], drop, take, Bool, Option, Some, None, Result, Ok, Err, if◌then◌else◌}
use Rattle.model_symbols.specs.Symbols.{QualifiedName, Table}
use Rattle.model_text.specs.Next.{run, nothing_read, Goes, Stands, Nothing, End, Faulty, Next, next_at}
use Rattle.model_text.specs.declared.TextFault.{TextFault}
use Rattle.model_text.specs.declared.TextCause.TheVariants.{Memory}
use Rattle.acl_base.specs.declared.PkgId.{PkgId}
use Rattle.acl_base.specs.declared.Word.{Word}
use Rattle.acl_heap.specs.Objects.{Objects}
use Rattle.acl_forms.specs.Forms.{form_at, IsWhole}
use Rattle.acl_read_lexemes.specs.Opening.{IsFault}
use Rattle.acl_read_scan.specs.declared.Built.{Built}
use Rattle.acl_read_scan.specs.declared.Inside.TheVariants.{Free}
use Rattle.acl_read_scan.specs.Built.{state_at, IsBuilt, packages_of}
use Rattle.acl_read.specs.declared.Reader.{Reader}

-- the bytes fed and not yet taken
abbrev pub unread : Reader → List ℕ
unread r = drop r.from r.bytes.items

-- how many bytes were taken before them
abbrev pub offset_of : Reader → ℕ
offset_of r = r.taken

-- whether the input has ended
abbrev pub has_ended : Reader → Bool
has_ended r = r.ended

-- the fault that was given
abbrev pub fault_of : Reader → Option TextFault
fault_of r = r.fault

-- what stands first in the unread bytes, where these symbols are known
abbrev pub next_of : List QualifiedName → Table → PkgId → Reader → Next
next_of start t current r = next_at t.packages current.0 start (offset_of r) (unread r) (has_ended r)

-- nothing has been read of the next form
pub record IsFresh (b : Built) : Type 0 where
  pub frames : b.frames.items ≡ []
  pub lexemes : b.lexemes.items ≡ []
  pub inside : b.inside ≡ Free
  pub token : b.token.items ≡ []
  pub first : b.first ≡ b.at

-- what the reader has built of the form at hand is what its bytes lead to from these symbols, and the table now has the
-- symbols that they lead to
pub record Fits (start : List QualifiedName) (t : Table) (current : PkgId) (r : Reader) : Type 0 where
  pub built : IsBuilt t r.built
  pub place : r.built.at ≡ offset_of r + (r.scanned - r.from)
  pub leads : run (packages_of t current) (nothing_read start (offset_of r)) (take (r.scanned - r.from) (unread r)) ≡ Goes (state_at t r.built)

-- nothing is built, which fits all
abbrev pub HasBuiltNothing : Reader → Type 0
HasBuiltNothing r = (t : Table) (current : PkgId) → Fits t.symbols t current r

-- The reader may be asked for its next form, with this table and this current package: it has answered a fault, which it answers
-- again, or what it has built fits.
abbrev pub IsReady : Table → PkgId → Reader → Type 0
IsReady t current r = fault_of r ≡ None → (start : List QualifiedName) × Fits start t current r

-- what is answered is what stands first in the unread bytes, from these symbols
abbrev pub Takes : List QualifiedName → Table → Objects → PkgId → Reader → Reader → Result (Option Word) TextFault → Type 0
Takes start t h current old new (Ok (Some w)) =
    (next_of start t current old ≡ Stands (form_at t h w) (offset_of new) t.symbols) × IsWhole t h w
    × (offset_of old ≤ offset_of new) × (unread new ≡ drop (offset_of new - offset_of old) (unread old)) × HasBuiltNothing new
Takes start t h current old new (Ok None) =
    (next_of start t current old ≡ (if has_ended old then End else Nothing))
    × (unread new ≡ unread old) × (offset_of new ≡ offset_of old) × Fits start t current new
Takes start t h current old new (Err e) = IsFault (next_of start t current old) Faulty e

-- why a piece is refused: for want of memory, or by the fault that was given
abbrev pub FeedFault : Option TextFault → TextFault → Type 0
FeedFault None e = (e.cause ≡ Memory) × (e.offset ≡ 0)
FeedFault (Some fault) e = e ≡ fault
