-- What the event ends with, from what reading its form ends with.
use Rattle.std.specs.Prelude.{◌≡◌, ℕ, List, ◌++◌, Option, Some, None, refl}
use Rattle.std.specs.Option.{option_or}
use Rattle.std.proofs.Common.{sym, ap, ◌∙◌, subst}
use Rattle.model_objects.specs.Object.{Object}
use Rattle.model_symbols.specs.Symbols.{QualifiedName, Package, Table}
use Rattle.model_terms.specs.Worlds as worlds
use Rattle.model_terms.specs.Worlds.{World, HasDistinctNames}
use Rattle.model_expansion.specs.Words.{defstobj_word}
use Rattle.model_expansion.specs.Forms.{symbol_or_nil}
use Rattle.model_expansion.specs.Faults as faults
use Rattle.model_expansion.specs.Faults.{Refusal}
use Rattle.model_expansion.specs.Expansion.{Progress}
use Rattle.model_stobjs.specs.Answers as answer
use Rattle.model_stobjs.specs.Answers.{EventResult, unless, needing, then_grant}
use Rattle.model_stobjs.specs.Heads.{name_in_use}
use Rattle.model_stobjs.specs.Descriptors as written
use Rattle.model_stobjs.specs.Descriptors.{descriptor_read, new_names, mismatch}
use Rattle.model_stobjs.specs.Entries.{stobj_entries}
use Rattle.model_events.specs.Events.{Limits, Name, stobj_admitted, admitted}
use Rattle.acl_heap.specs.Objects.{Objects}
use Rattle.acl_terms.specs.declared.stobj.Descriptor.{Descriptor}
use Rattle.acl_terms.specs.Definitions.{seen_descriptor}
use Rattle.acl_worlds.specs.Contents.{Content, IsWorld, seen_world}
use Rattle.acl_stobj_written.specs.declared.fault.StobjFault.{StobjFault}
use Rattle.acl_stobj_written.specs.Refusals.{Told}
use Rattle.acl_stobj.specs.Outcomes as outcome
use Rattle.acl_stobj.proofs.OutcomeLemmas.{told_as}
use Rattle.acl_enter_stobj.specs.Entered.{Enters}
use Rattle.acl_admit_stobj.specs.Admitted.{environment, Admits, Refuses, HasEntered}
use Rattle.acl_admit_stobj.proofs.NameLemmas.{entries_new}

-- the event reads its form, and then puts the stobj into the world
is_read_first : (w : World) (packages : List Package) (current : ℕ) (bounds : Limits) (form : Object ℕ) (p : Progress)
    → admitted (environment w packages current) bounds defstobj_word form p ≡ then_grant (descriptor_read w packages form p) (stobj_admitted (environment w packages current))
unfolding admitted
is_read_first w packages current bounds form p = refl

-- ---- no name of a stobj that is granted is in use

-- where something is granted, it is such a thing
abbrev IfGrants : (worlds.Descriptor → Type 0) → EventResult worlds.Descriptor → Type 0
IfGrants P (answer.Grants d p) = P d
IfGrants P (answer.Refuses r p) = Unit {0}
IfGrants P (answer.Halts stop inside p) = Unit {0}

module _ (P : worlds.Descriptor → Type 0) where
  of_unless : (r : Option Refusal) (go : Progress → EventResult worlds.Descriptor) (p : Progress) → (r ≡ None → IfGrants P (go p)) → IfGrants P (unless r go p)
  of_unless None go p h = h refl
  of_unless (Some r) go p h = tt

  of_needing : {A : Type 0} (v : Option A) (r : Refusal) (go : A → Progress → EventResult worlds.Descriptor) (p : Progress) → ((a : A) → IfGrants P (go a p)) → IfGrants P (needing v r go p)
  of_needing None r go p h = tt
  of_needing (Some a) r go p h = h a

first_none : (a b : Option Refusal) → option_or a b ≡ None → a ≡ None
first_none None b e = refl
first_none (Some v) b e = cc

abbrev IsFree : World → worlds.Descriptor → Type 0
IsFree w d = name_in_use w (new_names d) ≡ None

free : (w : World) (packages : List Package) (form : Object ℕ) (p : Progress) → IfGrants (IsFree w) (descriptor_read w packages form p)
unfolding descriptor_read
free w packages form p =
    of_needing (IsFree w) (written.written_stobj w p.symbols form) (faults.Expand (faults.BadShape defstobj_word)) (written.written_then w packages) p (λ o.
    of_unless (IsFree w) _ (written.names_then w packages o (written.shaped_fields w o.fields)) p (λ none.
    made o (written.names_made packages o.renaming (written.stobj_makings p.symbols (symbol_or_nil o.name) (written.shaped_fields w o.fields)) p.symbols) p))
  where
    made : (o : written.WrittenStobj) (m : written.MadeNames) (q : Progress) → IfGrants (IsFree w) (written.descriptor_made w o (written.shaped_fields w o.fields) m q)
    made o m q =
        let d : worlds.Descriptor = written.descriptor_with o (written.shaped_fields w o.fields) m.numbers in
        of_unless (IsFree w) (written.room_for m) (written.named_descriptor w d) (record q { symbols = m.symbols }) (λ room.
        of_unless (IsFree w) (option_or (name_in_use w (new_names d)) (mismatch w d)) (λ x. answer.Grants d x) (record q { symbols = m.symbols }) (λ none.
        first_none (name_in_use w (new_names d)) (mismatch w d) none))

module _ (h : Objects) (w : Content) (t : Table) (form : Object ℕ) (new : List QualifiedName) where
  pub refused : (f : StobjFault) → Told h (outcome.Refuses (seen_world h w) t form new) f → Told h (Refuses (seen_world h w) t form new) f
  refused f told = told_as h (outcome.Refuses (seen_world h w) t form new) (Refuses (seen_world h w) t form new) f again told
    where
      again : (r : Refusal) → outcome.Refuses (seen_world h w) t form new r → Refuses (seen_world h w) t form new r
      again r g = record {
        is = λ current bounds p.
            is_read_first (seen_world h w) t.packages current bounds form (record p { symbols = t.symbols })
            ∙ ap (λ e. then_grant e (stobj_admitted (environment (seen_world h w) t.packages current))) (g.is p);
      }

  module _ (d : Descriptor) (g : outcome.Grants (seen_world h w) t form new (seen_descriptor h d)) where
    pub fresh : IsWorld w → HasDistinctNames (seen_world h w ++ stobj_entries (seen_world h w) (seen_descriptor h d))
    fresh is =
        let p : Progress = record { calls = 0; outer = 0; symbols = t.symbols; last = None; cut = 0 } in
        entries_new h w (seen_descriptor h d) is (subst (IfGrants (IsFree (seen_world h w))) (g.is p) (free (seen_world h w) t.packages form p))

    pub admits : (after : Content) → seen_world h after ≡ seen_world h w ++ stobj_entries (seen_world h w) (seen_descriptor h d) → Admits (seen_world h w) t form new (seen_world h after) d.name.0
    admits after entered = record {
      is = λ current bounds p.
          is_read_first (seen_world h w) t.packages current bounds form (record p { symbols = t.symbols })
          ∙ (ap (λ e. then_grant e (stobj_admitted (environment (seen_world h w) t.packages current))) (g.is p)
          ∙ ap (λ v. answer.Grants (record { environment = environment v t.packages current; created = Some d.name.0; said = Name d.name.0 }) (record p { symbols = new })) (sym entered));
    }

pub has_entered : (old new : Content) (d : Descriptor) → Enters old new d → HasEntered old new d.name.0
has_entered old new d e = record { descriptor = d; named = refl; enters = e }
