-- A stobj that was read, and is not refused before names are made.
use Rattle.std.specs.Prelude.{◌≡◌, List, None}
use Rattle.model_objects.specs.Object.{Object}
use Rattle.std.specs.Prelude.{ℕ}
use Rattle.model_symbols.specs.Symbols.{QualifiedName}
use Rattle.model_terms.specs.Worlds.{World}
use Rattle.model_stobjs.specs.Descriptors.{written_stobj}
use Rattle.acl_heap.specs.Objects.{Objects}
use Rattle.acl_stobj_written.specs.declared.reading.ReadStobj.{ReadStobj}
use Rattle.acl_stobj_written.specs.Read.{IsRead}
use Rattle.acl_stobj_written.specs.Refusals.{written_refusal}

pub record Accepts (w : World) (symbols : List QualifiedName) (h : Objects) (form : Object ℕ) (r : ReadStobj) : Type 0 where
  pub read : IsRead w h r (written_stobj w symbols form)
  pub accepted : written_refusal w symbols (written_stobj w symbols form) ≡ None
