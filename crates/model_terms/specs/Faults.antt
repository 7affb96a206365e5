-- The first fault: the first place in preorder at which a rule fails, and the smallest rule that fails there (ACL2's manual,
-- topic STOBJ).
use Rattle.std.specs.Prelude.{ℕ, ◌+◌, List, [], ◌∷◌, ◌++◌, map, Bool, ◌||◌, ◌&&◌, not, Option, Some, None, option_map, option_to_list, unwrap_or, if◌then◌else◌}
use Rattle.std.specs.Option.{option_or, option_map_or}
use Rattle.std.specs.List.{list_any, flat_map, find}
use Rattle.model_terms.specs.declared.rule.Rule.{Rule}
use Rattle.model_terms.specs.declared.rule.Rule.TheVariants.{S1, S2, S3, S4, S5, S6, S7, S8, S9, S10, S11, S12, S13, S14, S15, S16}
use Rattle.model_terms.specs.declared.rule.Mode.{Mode}
use Rattle.model_terms.specs.declared.rule.Mode.TheVariants.{Executable, Logic, Macro}
use Rattle.model_terms.specs.Cores.{Core, Place}
use Rattle.model_terms.specs.Worlds.{World, Out, Ordinary, Scope, Signature, OptionalFormal, MacroFormals}
use Rattle.model_terms.specs.Classes.{is_stobj_name, has}
use Rattle.model_terms.specs.Outputs.{outs, signature_of}
use Rattle.model_terms.specs.Accessors.{runs}
use Rattle.model_terms.specs.Rounds.{Member, formal_scope}
use Rattle.model_terms.specs.Sites.{Site, Placed, here, below, one_ordinary, sites}
use Rattle.model_terms.specs.Rules.{fails}

pub record Fault : Type 0 where
  pub rule : Rule
  pub place : Place

-- the rules, the smallest first
abbrev pub all_rules : List Rule
all_rules = S1 ∷ S2 ∷ S3 ∷ S4 ∷ S5 ∷ S6 ∷ S7 ∷ S8 ∷ S9 ∷ S10 ∷ S11 ∷ S12 ∷ S13 ∷ S14 ∷ S15 ∷ S16 ∷ []

abbrev pub first_rule : World → Mode → Site → Option Rule
first_rule w mode s = find (λ r. fails w mode r s) all_rules

abbrev pub fault_at : World → Mode → Placed → Option Fault
fault_at w mode p = option_map (λ r. record { rule = r; place = p.place }) (first_rule w mode p.site)

-- the first fault among some places
unfoldable pub first_in : World → Mode → List Placed → Option Fault
first_in w mode [] = None
first_in w mode (p ∷ ps) = option_or (fault_at w mode p) (first_in w mode ps)

-- the first fault at a form and below it, where the form may be an actual in the position of a stobj
unfoldable pub first_at : World → Mode → Scope → Core → Option ℕ → List Out → Option Fault
first_at w mode scope f formal expected = first_in w mode (here f scope formal expected ∷ below w scope f expected)

-- the first fault of a form in a scope of which these outputs are expected
unfoldable pub first_fault : World → Mode → Scope → Core → List Out → Option Fault
first_fault w mode scope f expected = first_in w mode (sites w scope f expected)

-- a form of which its own outputs are expected
abbrev pub expression_fault : World → Scope → Core → Option Fault
expression_fault w scope f = first_fault w Executable scope f (outs w scope f)

abbrev pub constant_fault : World → Core → Option Fault
constant_fault w f = first_fault w Macro [] f one_ordinary

-- ---- definitions

abbrev pub at : Place → Option Fault → Option Fault
at outer fault = option_map (λ (f : Fault). record { rule = f.rule; place = outer ++ f.place }) fault

-- S10: a formal that names a stobj is not declared as one, or a declared name is no such formal
abbrev pub s10_fails : World → List ℕ → List ℕ → Bool
s10_fails w formals stobjs =
    list_any (λ x. is_stobj_name w x && not (has stobjs x)) formals || list_any (λ x. not (has formals x && is_stobj_name w x)) stobjs

abbrev pub head_fault : World → ℕ → Member → Option Fault
head_fault w n m = if s10_fails w m.formals m.stobjs then Some (record { rule = S10; place = n ∷ [] }) else None

-- of a function that runs, number n of its clique
abbrev pub function_fault : World → ℕ → Member → List Out → Option Fault
function_fault w n m outs =
    option_or (head_fault w n m)
    (option_or (at (n ∷ 0 ∷ []) (first_fault w Executable (formal_scope w m) m.guard one_ordinary)) (at (n ∷ 1 ∷ []) (first_fault w Executable (formal_scope w m) m.body outs)))

abbrev pub ordinary_scope : List ℕ → Scope
ordinary_scope names = map (λ x. record { name = x; kind = Ordinary }) names

-- of a function that does not run
abbrev pub logic_fault : World → ℕ → Member → Option Fault
logic_fault w n m =
    option_or (at (n ∷ 0 ∷ []) (first_fault w Logic (ordinary_scope m.formals) m.guard one_ordinary)) (at (n ∷ 1 ∷ []) (first_fault w Logic (ordinary_scope m.formals) m.body one_ordinary))

abbrev pub outs_of : World → ℕ → List Out
outs_of w f = option_map_or (λ (s : Signature). s.outs) (signature_of w [] f) one_ordinary

-- its outputs are those of its signature
abbrev pub member_fault : World → ℕ → Member → Option Fault
member_fault w n m = if runs w m.name then function_fault w n m (outs_of w m.name) else logic_fault w n m

-- of the functions of a clique, from number n on, that stand in the world with their signatures
abbrev pub clique_fault : World → ℕ → List Member → Option Fault
clique_fault w n [] = None
clique_fault w n (m ∷ ms) = option_or (member_fault w n m) (clique_fault w (n + 1) ms)

-- ---- macros

abbrev pub optional_names : List OptionalFormal → List ℕ
optional_names fs = flat_map (λ (f : OptionalFormal). f.name ∷ option_to_list f.supplied) fs

-- the formals in the order in which a body's actuals come
abbrev pub formal_names : MacroFormals → List ℕ
formal_names f = f.required ++ (optional_names f.optional ++ (option_to_list f.rest ++ optional_names (unwrap_or f.keys [])))

-- S15: a formal is the name of a stobj
abbrev pub macro_fault : World → MacroFormals → Core → Option Fault
macro_fault w formals body =
    if list_any (is_stobj_name w) (formal_names formals) then Some (record { rule = S15; place = 0 ∷ [] })
    else at (0 ∷ 1 ∷ []) (first_fault w Macro (ordinary_scope (formal_names formals)) body one_ordinary)
