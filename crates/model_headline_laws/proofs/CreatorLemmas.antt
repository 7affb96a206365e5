-- What the printed obligations of the creator of an abstract stobj say of values.
use Rattle.std.proofs.Common.{◌≡◌, ℕ, [], ◌∷◌, Option, Some, sym, ap, ◌∙◌, subst}
use Rattle.std.specs.Prelude.{unwrap_or}
use Rattle.model_objects.specs.Object.{Object}
use Rattle.model_symbols.specs.Symbols.{QualifiedName, symbol_at}
use Rattle.model_prims.specs.Kinds.{by_name}
use Rattle.model_lists.specs.Lists.{as_object}
use Rattle.model_lists.specs.Layouts.{Layout, initial}
use Rattle.model_terms.specs.declared.role.Role.{Role}
use Rattle.model_terms.specs.declared.role.Role.TheVariants as role
use Rattle.model_terms.specs.Worlds.{World, Definition, Descriptor, AbstractDescriptor, Abstract, Concrete, Generated, definition}
use Rattle.model_eval.specs.StobjLayouts.{stobj_layout}
use Rattle.model_logic.specs.Logic.{Theory, Thing, seen, creator_of, logic_of_abstract, defined_value, CallEndsWith}
use Rattle.model_logic.specs.LogicFunctions.{logic_effect}
use Rattle.model_stobjs.specs.Obligations.{call_of, obligations}
use Rattle.model_follows.specs.Costs.{caller, Ends}
use Rattle.model_follows.specs.Abstract.{CreatorHolds}
use Rattle.model_follows.specs.FollowedWorlds.{HasCreator}
use Rattle.model_follows.specs.Follows.{table_of}
use Rattle.model_follows.proofs.CostLemmas.{costs_nothing, ends_call}
use Rattle.model_follows.proofs.LaterLemmas.{call_costs}
use Rattle.model_follows.proofs.EarlierLemmas.{ends_once}
use Rattle.model_follows.proofs.LayoutThings.{named_layout, layout_named}
use Rattle.model_books.specs.Opening.{Session}
use Rattle.model_abstract_books.specs.Commands.{theory_of}
use Rattle.model_abstract_books.specs.Holding.{AllHold, ObligationsHold}
use Rattle.model_made.specs.Made.{IsMade}
use Rattle.model_made_logic.specs.Followed.{IsFollowedHere}
use Rattle.model_made_logic.proofs.StockLemmas.{stocked_creators}
use Rattle.model_made_logic.proofs.LawLemmas.{made_stocked, made_sessions_known}
use Rattle.model_made_logic.proofs.FollowedLemmas.{made_worlds_followed_here, made_exports_written}
use Rattle.model_logic_laws.proofs.LogicHomes.{calls_keep_homes}
use Rattle.model_logic_laws.proofs.EquationLemmas.{Two, two_args, call_ends, one_value}
use Rattle.model_logic_laws.proofs.ExportLemmas.{OneArg, one_arg}
use Rattle.model_headline_laws.specs.Creators.{ObligationsTellCreators}

module _ (s : Session) (made : IsMade s) (hold : ObligationsHold (theory_of s.environment s.symbols)) (x : ℕ) (d : AbstractDescriptor) (e : definition s.environment.world x ≡ Some (Abstract d)) where
  abbrev b : Theory
  b = theory_of s.environment s.symbols

  abbrev w : World
  w = s.environment.world

  abbrev here : IsFollowedHere w (table_of s.environment.packages s.symbols)
  here = made_worlds_followed_here.followed s made

  -- the foundation's creator
  foundation : (c : Descriptor) × (class : ℕ) × (definition w d.foundation ≡ Some (Concrete c class)) × (d.creator.exec ≡ c.creator)
  foundation = made_exports_written.creators s made x d e

  made_by : HasCreator w d.foundation
  made_by = stocked_creators w (made_stocked s made) d.foundation foundation.1 foundation.0 foundation.2

  creator_there : definition w d.creator.exec ≡ Some (Generated made_by.creator)
  creator_there = ap (definition w) (foundation.3 ∙ sym (ap creator_of foundation.2)) ∙ made_by.there

  -- the list of a new one of the foundation
  abbrev fresh : Thing
  fresh = as_object by_name (initial (stobj_layout (λ (o : Object ℕ). seen b o) w x))

  layouts_same : stobj_layout (λ (o : Object ℕ). seen b o) w made_by.creator.stobj ≡ stobj_layout (λ (o : Object ℕ). seen b o) w x
  layouts_same =
      ap (stobj_layout (λ (o : Object ℕ). seen b o) w) made_by.made_of
      ∙ (layout_named (symbol_at s.symbols) w d.foundation
      ∙ (ap (named_layout (symbol_at s.symbols)) (sym (here.laid_out.alike x d e)) ∙ sym (layout_named (symbol_at s.symbols) w x)))

  fresh_ends : Ends (λ budget nest start. caller b budget nest d.creator.exec [] start) fresh
  unfolding logic_effect
  fresh_ends =
      ends_call b d.creator.exec [] fresh
      (subst (λ (v : Option Definition). Ends (λ budget nest start. defined_value b budget (caller b budget nest) (logic_of_abstract b budget (caller b budget nest)) v [] start) fresh) (sym creator_there)
      (by_role made_by.creator.role made_by.makes (stobj_layout (λ (o : Object ℕ). seen b o) w made_by.creator.stobj) layouts_same))
    where
      by_role : (r : Role) → r ≡ role.Creator → (l : Layout QualifiedName) → l ≡ stobj_layout (λ (o : Object ℕ). seen b o) w x
          → Ends (λ budget nest start. Some (record { value = logic_effect by_name r l (unwrap_or made_by.creator.field 0) []; calls = start })) fresh
      by_role r g l h =
          subst (λ (r : Role). Ends (λ budget nest start. Some (record { value = logic_effect by_name r l (unwrap_or made_by.creator.field 0) []; calls = start })) fresh) (sym g)
          (subst (λ (l : Layout QualifiedName). Ends (λ budget nest start. Some (record { value = as_object by_name (initial l); calls = start })) fresh) (sym h) (0, costs_nothing fresh))

  creator_holds : CreatorHolds b x d
  unfolding obligations
  creator_holds =
      let all : AllHold b (obligations w s.symbols d) = hold.hold x d e in
      let corresponding = all.0.holds [] tt in
      let two : Two b [] d.corr (call_of d.creator.exec []) (call_of d.creator.logic []) corresponding.0 = two_args b [] d.corr (call_of d.creator.exec []) (call_of d.creator.logic []) corresponding.0 corresponding.1 in
      let kept = all.1.0.holds [] tt in
      let one : OneArg b [] d.recognizer.logic (call_of d.creator.logic []) kept.0 = one_arg b [] d.recognizer.logic (call_of d.creator.logic []) kept.0 kept.1 in
      let ends : CallEndsWith b d.creator.logic [] two.y = call_ends b [] d.creator.logic [] two.y two.second in
      let same : one.x ≡ two.y = one_value b [] d.creator.logic [] one.x two.y (call_ends b [] d.creator.logic [] one.x one.first) ends in
      let is_fresh : two.x ≡ fresh
      = ends_once (λ budget nest start. caller b budget nest d.creator.exec [] start) two.x fresh (call_costs b d.creator.exec [] two.x (call_ends b [] d.creator.exec [] two.x two.first)) fresh_ends in
      record {
        made = two.y;
        ends = ends;
        corresponds = (corresponding.0, subst (λ (z : Thing). CallEndsWith b d.corr (z ∷ two.y ∷ []) corresponding.0) is_fresh two.call, corresponding.2);
        well_formed = subst (λ (v : Thing). CallEndsWith b d.recognizer.logic (two.y ∷ []) v) kept.2 (subst (λ (z : Thing). CallEndsWith b d.recognizer.logic (z ∷ []) kept.0) same one.call);
        homes = calls_keep_homes.homes b (made_sessions_known.table s made) (made_sessions_known.truth s made) here.written d.creator.logic [] two.y tt ends;
      }

pub obligations_tell_creators : ObligationsTellCreators
obligations_tell_creators = record { creators = λ s made hold x d e. creator_holds s made hold x d e }
