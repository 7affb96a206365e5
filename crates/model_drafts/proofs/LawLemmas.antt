-- Drafts, macros and constants have the symbols of their forms, and guards are shaped.
use Rattle.std.proofs.Common.{◌≡◌, ℕ, ◌≤◌, List, [], ◌∷◌, Option, Some, None, subst}
use Rattle.std.specs.Prelude.{option_map, option_and_then, unwrap_or}
use Rattle.std.specs.Option.{option_map_or}
use Rattle.model_objects.specs.Object.{Object}
use Rattle.model_objects.specs.Named.{Knows}
use Rattle.model_symbols.specs.Symbols.{QualifiedName}
use Rattle.model_terms.specs.Cores.{Var}
use Rattle.model_expansion.specs.Forms.{elements, symbol_or_nil}
use Rattle.model_expansion.specs.Layers.{GuardItem}
use Rattle.model_expansion_forms.specs.Rows.{IsShapedItem, AreShapedItems, IsKnownItem, AreKnownItems, AreKnownDefaults}
use Rattle.model_expansion_forms.proofs.LawLemmas.{tests_are_shaped}
use Rattle.model_events.specs.Constants.{name_and_form}
use Rattle.model_events.specs.Declarations.{Declared, formals_of, declarations}
use Rattle.model_events.specs.Functions.{WrittenFunction, written_functions, drafts_of}
use Rattle.model_events.specs.Macros.{WrittenMacro, written_macro, macro_formals}
use Rattle.model_standing.specs.Laws.{HaveShapedGuards}
use Rattle.model_drafts.specs.Laws.{DraftsAreShaped, KnowsDrafts, DraftsAreKnown, MacrosAreKnown, ConstantsAreKnown}
use Rattle.model_drafts.proofs.ItemLemmas.{IfAny, EachOne, Reads, declared_good}
use Rattle.model_drafts.proofs.ParseLemmas.{elements_known, FunctionKnown, functions_known, MacroKnown, macro_known, macro_defaults, BothKnown, constant_form}

-- what there is has what it has if it is any
any_is : {A : Type 0} (R : A → Type 0) (v : Option A) (a : A) → IfAny R v → v ≡ Some a → R a
any_is R v a h e = subst (IfAny R) e h

-- ---- shaped

abbrev Any : Object ℕ → Type 0
Any o = Unit {0}

all_any : (os : List (Object ℕ)) → EachOne Any os
all_any [] = tt
all_any (o ∷ os) = (tt, all_any os)

any_parts : (o : Object ℕ) → Any o → IfAny (EachOne Any) (elements o)
any_parts o h = go (elements o)
  where
    go : (v : Option (List (Object ℕ))) → IfAny (EachOne Any) v
    go None = tt
    go (Some os) = all_any os

shaped_reads : Reads Any IsShapedItem
shaped_reads = record { parts = any_parts; holds = λ v h. tt; meets = λ t x test h e. tests_are_shaped.test t (Var x) test tt tt e }

each_shaped : (gs : List GuardItem) → EachOne IsShapedItem gs → AreShapedItems gs
each_shaped [] h = tt
each_shaped (g ∷ gs) h = (h.0, each_shaped gs h.1)

declared_shaped : (symbols : List QualifiedName) (formals : List ℕ) (written : List (Object ℕ)) (d : Declared) → declarations symbols formals written ≡ Some d → AreShapedItems d.guards
declared_shaped symbols formals written d e =
    each_shaped d.guards (any_is (λ (d : Declared). EachOne IsShapedItem d.guards) (declarations symbols formals written) d (declared_good Any IsShapedItem shaped_reads symbols formals written (all_any written)) e)

drafts_shaped : (symbols : List QualifiedName) (fs : List WrittenFunction) → HaveShapedGuards (drafts_of symbols fs)
drafts_shaped symbols [] = tt
drafts_shaped symbols (f ∷ fs) =
    go (declarations symbols (formals_of symbols f.formals) f.items) (declared_good Any IsShapedItem shaped_reads symbols (formals_of symbols f.formals) f.items (all_any f.items)) (drafts_shaped symbols fs)
  where
    go : (v : Option Declared) → IfAny (λ (d : Declared). EachOne IsShapedItem d.guards) v → HaveShapedGuards (drafts_of symbols fs)
        → HaveShapedGuards (option_map_or (λ d. d ∷ drafts_of symbols fs)
        (option_map (λ declared. record { name = symbol_or_nil f.name; formals = formals_of symbols f.formals; declared = declared; body = f.body; executable = f.executable }) v) (drafts_of symbols fs))
    go None k later = later
    go (Some declared) k later = (each_shaped declared.guards k, later)

pub drafts_are_shaped : DraftsAreShaped
drafts_are_shaped = record { items = declared_shaped; drafts = drafts_shaped }

-- ---- known

module _ (n : ℕ) (two : 2 ≤ n) where
  known_reads : Reads (Knows n) (IsKnownItem n)
  known_reads = record { parts = elements_known n two; holds = λ v h. h; meets = λ t x test h e. tests_are_shaped.known_test n t (Var x) test two h tt tt tt e }

  each_known : (gs : List GuardItem) → EachOne (IsKnownItem n) gs → AreKnownItems n gs
  each_known [] h = tt
  each_known (g ∷ gs) h = (h.0, each_known gs h.1)

  drafts_known : (symbols : List QualifiedName) (fs : List WrittenFunction) → EachOne (FunctionKnown n two) fs → KnowsDrafts n (drafts_of symbols fs)
  drafts_known symbols [] h = tt
  drafts_known symbols (f ∷ fs) h =
      go (declarations symbols (formals_of symbols f.formals) f.items) (declared_good (Knows n) (IsKnownItem n) known_reads symbols (formals_of symbols f.formals) f.items h.0.0) (drafts_known symbols fs h.1)
    where
      go : (v : Option Declared) → IfAny (λ (d : Declared). EachOne (IsKnownItem n) d.guards) v → KnowsDrafts n (drafts_of symbols fs)
          → KnowsDrafts n (option_map_or (λ d. d ∷ drafts_of symbols fs)
          (option_map (λ declared. record { name = symbol_or_nil f.name; formals = formals_of symbols f.formals; declared = declared; body = f.body; executable = f.executable }) v) (drafts_of symbols fs))
      go None k later = later
      go (Some declared) k later = ((each_known declared.guards k, h.0.1), later)

pub drafts_are_known : DraftsAreKnown
drafts_are_known = record {
  drafts = λ n symbols head d fs two h e. drafts_known n two symbols fs (any_is (EachOne (FunctionKnown n two)) (written_functions head d) fs (functions_known n two head d h) e);
}

macro_parts : (n : ℕ) (two : 2 ≤ n) (m : WrittenMacro) → MacroKnown n two m → (AreKnownDefaults n (macro_formals m.formals).optional × AreKnownDefaults n (unwrap_or (macro_formals m.formals).keys [])) × Knows n m.body
macro_parts n two m k = (macro_defaults n two m.formals k.0, k.1)

pub macros_are_known : MacrosAreKnown
macros_are_known = record { written = λ n d m two h e. macro_parts n two m (any_is (MacroKnown n two) (written_macro d) m (macro_known n two d h) e) }

pub constants_are_known : ConstantsAreKnown
constants_are_known = record { written = λ n d c two h e. any_is (BothKnown n two) (option_and_then name_and_form (elements d)) c (constant_form n two d h) e }
