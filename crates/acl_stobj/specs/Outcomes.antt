-- What the definition of a stobj ends with: its descriptor, or the first refusal, with the symbols that are known then.
use Rattle.std.specs.Prelude.{◌≡◌, ℕ, List, Option, Some, None}
use Rattle.std.specs.Option.{option_or}
use Rattle.model_objects.specs.Object.{Object}
use Rattle.model_symbols.specs.Symbols.{QualifiedName, Table}
use Rattle.model_terms.specs.Worlds.{World, Descriptor}
use Rattle.model_expansion.specs.Forms.{symbol_or_nil}
use Rattle.model_expansion.specs.Faults.{Refusal}
use Rattle.model_expansion.specs.Expansion.{Progress}
use Rattle.model_stobjs.specs.Answers as answer
use Rattle.model_stobjs.specs.Heads.{name_in_use}
use Rattle.model_stobjs.specs.Descriptors.{WrittenStobj, written_stobj, shaped_fields, stobj_makings, new_names, mismatch, descriptor_read}
use Rattle.acl_stobj.specs.Making.{IsPart}

module _ (w : World) (t : Table) (form : Object ℕ) (new : List QualifiedName) where
  -- the descriptor that the form is the definition of
  pub record Grants (d : Descriptor) : Type 0 where
    pub is : (p : Progress) → descriptor_read w t.packages form (record p { symbols = t.symbols }) ≡ answer.Grants d (record p { symbols = new })

  -- the first refusal
  pub record Refuses (r : Refusal) : Type 0 where
    pub is : (p : Progress) → descriptor_read w t.packages form (record p { symbols = t.symbols }) ≡ answer.Refuses r (record p { symbols = new })

-- a first part of the names is made
abbrev pub PartMade : World → Table → Option WrittenStobj → List QualifiedName → Type 0
PartMade w t None new = new ≡ t.symbols
PartMade w t (Some o) new = IsPart t.packages o.renaming (stobj_makings t.symbols (symbol_or_nil o.name) (shaped_fields w o.fields)) t.symbols new

-- however it ends, no more symbols are known than those of a first part of the names
unfoldable pub OnlyNames : World → Table → Object ℕ → List QualifiedName → Type 0
OnlyNames w t form new = PartMade w t (written_stobj w t.symbols form) new

-- the first refusal once the names are made
abbrev pub named_refusal : World → Descriptor → Option Refusal
named_refusal w d = option_or (name_in_use w (new_names d)) (mismatch w d)
