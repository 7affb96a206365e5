-- What the event DEFSTOBJ ends with: a world with the stobj, or the first refusal (ACL2's manual, topic DEFSTOBJ).
use Rattle.std.specs.Prelude.{◌≡◌, ℕ, List, Some}
use Rattle.model_objects.specs.Object.{Object}
use Rattle.model_symbols.specs.Symbols.{QualifiedName, Package, Table}
use Rattle.model_terms.specs.Worlds.{World}
use Rattle.model_expansion.specs.Words.{defstobj_word}
use Rattle.model_expansion.specs.Faults.{Refusal}
use Rattle.model_expansion.specs.Expansion.{Progress}
use Rattle.model_stobjs.specs.Answers as answer
use Rattle.model_events.specs.Events.{Environment, Limits, Name, admitted}
use Rattle.acl_terms.specs.declared.stobj.Descriptor.{Descriptor}
use Rattle.acl_worlds.specs.Contents.{Content}
use Rattle.acl_enter_stobj.specs.Entered.{Enters}

abbrev pub environment : World → List Package → ℕ → Environment
environment w packages current = record { world = w; packages = packages; current = current }

module _ (w : World) (t : Table) (form : Object ℕ) (new : List QualifiedName) where
  -- the event makes the stobj of this name and this world, whichever package is the current one and whatever was counted
  pub record Admits (after : World) (name : ℕ) : Type 0 where
    pub is : (current : ℕ) (bounds : Limits) (p : Progress)
        → admitted (environment w t.packages current) bounds defstobj_word form (record p { symbols = t.symbols })
        ≡ answer.Grants (record { environment = environment after t.packages current; created = Some name; said = Name name }) (record p { symbols = new })

  -- the event's first refusal
  pub record Refuses (r : Refusal) : Type 0 where
    pub is : (current : ℕ) (bounds : Limits) (p : Progress)
        → admitted (environment w t.packages current) bounds defstobj_word form (record p { symbols = t.symbols }) ≡ answer.Refuses r (record p { symbols = new })

-- the stobj of this name has its layout, and nothing of the old world has changed
pub record HasEntered (old new : Content) (name : ℕ) : Type 0 where
  pub descriptor : Descriptor
  pub named : descriptor.name.0 ≡ name
  pub enters : Enters old new descriptor
