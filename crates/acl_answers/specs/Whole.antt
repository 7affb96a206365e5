-- Sessions whose symbols and package are known.
use Rattle.std.specs.Prelude.{◌≡◌, ◌<◌, List, length, IfSome}
use Rattle.std.specs.List.{All}
use Rattle.model_symbols.specs.Symbols.{Table}
use Rattle.acl_base.specs.declared.SymId.{SymId}
use Rattle.acl_heap.specs.Objects.{Objects, object_of, Lies, IsText}
use Rattle.acl_answers.specs.declared.stobj.Field.{Field}
use Rattle.acl_answers.specs.declared.stobj.Stobj.{Stobj}
use Rattle.acl_answers.specs.declared.Session.{Session}
use Rattle.acl_answers.specs.declared.lines.Refusal.{Refusal}
use Rattle.acl_answers.specs.declared.lines.Refusal.TheVariants as refusal

abbrev pub IsKnown : Table → SymId → Type 0
IsKnown t s = s.0 < length t.symbols

abbrev pub AreKnown : Table → List SymId → Type 0
AreKnown t ids = All (IsKnown t) ids

abbrev pub IsKnownField : Table → Field → Type 0
IsKnownField t f = IsKnown t f.name × IsKnown t f.updater

abbrev pub AreKnownFields : Table → List Field → Type 0
AreKnownFields t fields = All (IsKnownField t) fields

-- its symbols are known, and each field has a value
pub record IsKnownStobj (t : Table) (o : Stobj) : Type 0 where
  pub name : IsKnown t o.name
  pub fields : AreKnownFields t o.fields.items
  pub same : length o.fields.items ≡ length o.values.items

pub record IsSession (t : Table) (s : Session) : Type 0 where
  pub current : s.current.0 < length t.packages
  pub object : IfSome s.object (IsKnownStobj t)

abbrev pub IsWholeRefusal : Table → Objects → Refusal → Type 0
IsWholeRefusal t h refusal.NotYet = Unit {0}
IsWholeRefusal t h (refusal.BadShape f) = IsKnown t f
IsWholeRefusal t h (refusal.BadName f) = IsKnown t f
IsWholeRefusal t h refusal.SymbolLimit = Unit {0}
IsWholeRefusal t h (refusal.NameInUse f) = IsKnown t f
IsWholeRefusal t h (refusal.UnknownPackage w) = Lies h w × IsText (object_of h w)
