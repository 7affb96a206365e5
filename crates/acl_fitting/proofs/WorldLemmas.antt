-- A world with more definitions: its words lie in the heap, and its fields have accepted types and known initial values.
use Rattle.std.specs.Prelude.{◌≡◌, ◌⊎◌, ℕ, ◌≤◌, List, [], ◌∷◌, ◌++◌, length, Some, None}
use Rattle.std.specs.List.{AllByRecursion}
use Rattle.std.proofs.Common.{sym, subst, arith, inl, inr}
use Rattle.model_terms.specs.Worlds as worlds
use Rattle.model_terms.specs.Worlds.{World}
use Rattle.model_terms.specs.Accessors.{descriptor_in}
use Rattle.model_known.specs.Known.{KnowsFields, KnowsStarts}
use Rattle.model_origins.specs.Plain.{IsOfNoStobj}
use Rattle.model_origins.proofs.PlainLemmas.{each_found, definition_is}
use Rattle.acl_heap.specs.Objects.{Objects}
use Rattle.acl_terms.specs.declared.definition.Definition.{Definition}
use Rattle.acl_terms.specs.Definitions.{seen_definitions, definitions_reach}
use Rattle.acl_worlds.specs.Contents.{Content, WorldLies, seen_world}
use Rattle.acl_layouts.specs.Typed.{AreTyped, AcceptsTypes}
use Rattle.acl_list_keeper.specs.Sound.{WorldFits}
use Rattle.acl_origins.proofs.RunLemmas.{seen_new}

some_same : {A : Type 0} {a b : A} → Some a ≡ Some b → a ≡ b
some_same e = cc

both_lie : (n : ℕ) (ds es : List Definition) → definitions_reach ds ≤ n → definitions_reach es ≤ n → definitions_reach (ds ++ es) ≤ n
both_lie n [] es l k = k
both_lie n (d ∷ ds) es l k =
    let others : definitions_reach ds ≤ n = omega (arith, l) in
    let rest : definitions_reach (ds ++ es) ≤ n = both_lie n ds es others k in
    omega (arith, l, rest)

pub all_lie : (h : Objects) (old new : Content) (ds : List Definition) → new.definitions ≡ old.definitions ++ ds → WorldLies h old → definitions_reach ds ≤ length h → WorldLies h new
all_lie h old new ds e l k = subst (λ (all : List Definition). definitions_reach all ≤ length h) (sym e) (both_lie (length h) old.definitions ds l k)

both_typed : (w new : World) → AcceptsTypes w → AcceptsTypes new → AcceptsTypes (w ++ new)
both_typed w new a b = record { each = λ x d class e. go x d class (definition_is w new x (worlds.Concrete d class) e) }
  where
    go : (x : ℕ) (d : worlds.Descriptor) (class : ℕ) → (worlds.definition w x ≡ Some (worlds.Concrete d class)) ⊎ ((worlds.definition w x ≡ None) × (worlds.definition new x ≡ Some (worlds.Concrete d class))) → AreTyped d.fields
    go x d class (inl i) = a.each x d class i
    go x d class (inr i) = b.each x d class i.1

both_known : (n : ℕ) (w new : World) → KnowsStarts n w → KnowsStarts n new → KnowsStarts n (w ++ new)
both_known n w new a b = record { each = λ x d q e f. go x d q f (definition_is w new x d (sym e)) }
  where
    go : (x : ℕ) (d : worlds.Definition) (q : worlds.Descriptor) → Some q ≡ descriptor_in d → (worlds.definition w x ≡ Some d) ⊎ ((worlds.definition w x ≡ None) × (worlds.definition new x ≡ Some d)) → KnowsFields n q.fields
    go x d q f (inl i) = a.each x d q (sym i) f
    go x d q f (inr i) = b.each x d q (sym i.1) f

pub world_fits : (h : Objects) (old new : Content) (ds : List Definition) (n : ℕ) → new.definitions ≡ old.definitions ++ ds → WorldLies h new → AcceptsTypes (seen_definitions h ds) → KnowsStarts n (seen_definitions h ds)
    → WorldFits h old n → WorldFits h new n
world_fits h old new ds n e lies typed known f = record {
  lies = lies;
  accepts = subst (λ (u : World). AcceptsTypes u) (sym (seen_new h old new ds e)) (both_typed (seen_world h old) (seen_definitions h ds) f.accepts typed);
  knows = subst (λ (u : World). KnowsStarts n u) (sym (seen_new h old new ds e)) (both_known n (seen_world h old) (seen_definitions h ds) f.knows known);
  some = f.some;
}

-- ---- definitions of no stobj

pub none_typed : (w : World) → AllByRecursion IsOfNoStobj w → AcceptsTypes w
none_typed w plain = record { each = λ x d class e. absurd (each_found IsOfNoStobj w plain x (worlds.Concrete d class) e) }

none_here : {A : Type 0} (d : worlds.Definition) (q : worlds.Descriptor) → IsOfNoStobj d → Some q ≡ descriptor_in d → A
none_here (worlds.Primitive name row) q p e = absurd (cc)
none_here (worlds.Defined f) q p e = absurd (cc)
none_here (worlds.Macro name formals body) q p e = absurd (cc)
none_here (worlds.Constant name value) q p e = absurd (cc)
none_here (worlds.Concrete d class) q p e = absurd p
none_here (worlds.Generated g) q p e = absurd p
none_here (worlds.Abstract d) q p e = absurd p
none_here (worlds.OfAbstract f) q p e = absurd p
none_here (worlds.Named name formals) q p e = absurd (cc)
none_here (worlds.Signed name formals signature executable) q p e = absurd (cc)

pub none_known : (n : ℕ) (w : World) → AllByRecursion IsOfNoStobj w → KnowsStarts n w
none_known n w plain = record { each = λ x d q e f. none_here d q (each_found IsOfNoStobj w plain x d (sym e)) f }
