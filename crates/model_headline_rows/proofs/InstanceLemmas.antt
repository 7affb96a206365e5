-- The session at the end of the book meets the statements.
use Rattle.std.proofs.Common.{◌≡◌, ◌≢◌, ℕ, [], ◌∷◌, length, Bool, true, false, Some, None, refl, sym, ap, ◌∙◌, subst, arith, inr}
use Rattle.std.specs.Prelude.{◌||◌, nat_eq, pos, if◌then◌else◌}
use Rattle.std.specs.Option.{option_or}
use Rattle.std.proofs.lemmas.Bool.{eqb-true}
use Rattle.std.proofs.lemmas.List.{append-nil}
use Rattle.model_objects.specs.Object.{Integer}
use Rattle.model_objects.specs.Named.{Knows}
use Rattle.model_symbols.specs.Opening.{common_lisp_text, acl2_text, common_lisp_symbols, acl2_symbols, acl2_package, opening}
use Rattle.model_symbols.proofs.TableLemmas.{Extends-self}
use Rattle.model_lists.specs.Lists.{StobjList}
use Rattle.model_lists.specs.Normal.{canonical}
use Rattle.model_terms.specs.declared.rule.Mode.TheVariants.{Executable, Logic}
use Rattle.model_terms.specs.Worlds.{Out, Ordinary, Stobj, Concrete, definition}
use Rattle.model_terms.specs.Scopes.{kind_in}
use Rattle.model_eval.specs.Outcomes.{Stobjs, Plain}
use Rattle.model_eval.specs.Variables.{list_of, variable_in}
use Rattle.model_prims.specs.Kinds.{by_number}
use Rattle.model_logic.specs.Logic.{value_in}
use Rattle.model_eval_laws.specs.Scope.{is_among}
use Rattle.model_eval_alike.specs.Alike.{canonical_stobjs}
use Rattle.model_accepted.specs.Threaded.{IsFormed, AreFormed}
use Rattle.model_accepted.specs.StobjScopes.{IsOfKind, IsStobj}
use Rattle.model_follows.specs.FollowedWorlds.{IsSuited, AreSuited, HasAbstractCreator}
use Rattle.model_follows.specs.Follows.{table_of, KnowsShown}
use Rattle.model_follows.specs.AbstractLists.{AreLive}
use Rattle.model_follows.specs.Corresponding.{as_thing}
use Rattle.model_expansion.specs.Expansion.{at_start}
use Rattle.model_books.specs.Opening.{Session}
use Rattle.model_books.specs.Commands.{command}
use Rattle.model_abstract_books.specs.Commands.{theory_of}
use Rattle.model_abstract_books.specs.Holding.{ObligationsHold}
use Rattle.model_abstract_books_rows.specs.Identity.{identity_book, identity_session}
use Rattle.model_abstract_books_rows.specs.Rows.{usual}
use Rattle.model_abstract_books_rows.proofs.IdentitySession.{concrete_object, abstract_object, known_symbols, known_standing}
use Rattle.model_abstract_books_rows.proofs.RowIdentity.{identity_holds}
use Rattle.model_made.specs.Made.{IsMade}
use Rattle.model_made_logic.proofs.LawLemmas.{made_worlds_followed, made_sessions_known}
use Rattle.model_books_made.proofs.BookLemmas.{book_sessions_made}
use Rattle.model_headline.specs.Logic.{IsAsked}
use Rattle.model_headline.specs.Written.{StandsAfterMemory, cells_of}
use Rattle.model_headline_rows.specs.Instances.{both_with, one_integer, concrete_list, both_lists, writing, exporting, local_exports, IsFollowable, AreMetAt, AreMetWithLiveStobjs}
use Rattle.model_headline_rows.proofs.RowSession.{known_session, session_known}
use Rattle.model_headline_rows.proofs.RowCommands.{writing_read, exporting_read, writing_done, writing_counted, writing_stopped, exporting_done, writing_core, writing_made, writing_accepted}
use Rattle.model_headline_rows.proofs.RowLists.{concrete_stands, abstract_stands, update_signature, access_signature, update_signed, access_signed, zero_list, concrete_correspond, both_correspond, concrete_scope, concrete_variables, concrete_state, local_accepted, local_after, local_ends}

-- ---- the session

identity_made : IsMade identity_session
unfolding identity_session
identity_made = book_sessions_made.played 50 usual identity_book

known_made : IsMade known_session
known_made = subst IsMade session_known identity_made

abbrev HoldIn : Session → Type 0
HoldIn s = ObligationsHold (theory_of s.environment s.symbols)

known_hold : HoldIn known_session
known_hold = subst HoldIn session_known identity_holds.hold

symbols_counted : length known_symbols ≡ 218
unfolding known_symbols opening common_lisp_text acl2_text common_lisp_symbols acl2_symbols acl2_package
symbols_counted = refl

-- ---- the exports are called

exporting_known : Knows (length known_symbols) exporting
exporting_known =
    let n : length known_symbols ≡ 218 = symbols_counted in
    (omega (arith, n), (tt, (omega (arith, n), omega (arith, n))))

asked : IsAsked usual known_session exporting both_lists
asked = record { made = known_made; known = exporting_known; value = refl; hold = subst HoldIn (sym exporting_done) known_hold; correspond = both_correspond }

-- ---- exports of a local stobj

only_scope : (x : ℕ) (k : Out) → kind_in concrete_scope x ≡ Some k → (x ≡ 196) × (k ≡ Stobj 196)
only_scope x k h = go (nat_eq x 196) refl h
  where
    go : (b : Bool) → nat_eq x 196 ≡ b → option_or None (if b then Some (Stobj 196) else None) ≡ Some k → (x ≡ 196) × (k ≡ Stobj 196)
    go true e f = (eqb-true x 196 e, cc)
    go false e f = cc

by_only : (P : ℕ → Out → Type 0) → P 196 (Stobj 196) → (x : ℕ) (k : Out) → kind_in concrete_scope x ≡ Some k → P x k
by_only P p x k h =
    let e = only_scope x k h in
    subst (λ y. P y k) (sym e.0) (subst (λ o. P 196 o) (sym e.1) p)

only_among : (x : ℕ) → is_among x (196 ∷ []) ≡ true → x ≡ 196
only_among x h = go (nat_eq x 196) refl h
  where
    go : (b : Bool) → nat_eq x 196 ≡ b → (b || false) ≡ true → x ≡ 196
    go true e f = eqb-true x 196 e
    go false e f = cc

in_scope : AreLive concrete_scope concrete_state.stobjs
in_scope = record {
  there = λ x h. subst (λ y. is_among y (196 ∷ []) ≡ true) (sym (only_scope x (Stobj x) h).0) refl;
  only = λ x h. subst (λ y. IsStobj concrete_scope y) (sym (only_among x h)) refl;
  once = refl;
}

local_creator : HasAbstractCreator known_standing.world 212
local_creator = made_worlds_followed.creators known_session known_made 212 abstract_object abstract_stands

local_formed : IsFormed known_standing.world local_exports
unfolding IsFormed AreFormed
local_formed = ((refl, (((update_signature, update_signed, refl), (tt, (tt, tt))), tt), (((access_signature, access_signed, refl), (tt, tt)), (tt, tt))), tt)

local_suited : IsSuited known_standing.world (length known_symbols) local_exports
unfolding IsSuited AreSuited
local_suited = (omega arith, inr local_creator, (((tt, (tt, tt)), tt), (omega arith, ((tt, tt), (tt, tt)))), tt)

not_logic : Executable ≢ Logic
not_logic e = cc

followable : IsFollowable usual known_session local_exports ((196, one_integer 0) ∷ []) concrete_list (Plain (Integer (pos 5)) ∷ [])
followable = record {
  made = known_made;
  hold = known_hold;
  mode = Executable;
  scope = concrete_scope;
  expected = Ordinary ∷ [];
  executable = not_logic;
  accepted = local_accepted;
  formed = local_formed;
  suited = local_suited;
  variables = concrete_variables;
  state = concrete_state;
  values = (196, zero_list) ∷ [];
  has = refl;
  table = made_sessions_known.table known_session known_made;
  grown = Extends-self (table_of known_standing.packages known_symbols);
  are = record { each = by_only (λ x k. IsOfKind x k (variable_in by_number concrete_variables x)) (refl, refl) };
  live = in_scope;
  correspond = concrete_correspond;
  known = record {
    known = by_only (λ x k. KnowsShown (length known_symbols) (variable_in by_number concrete_variables x)) tt;
    same = by_only (λ x k. value_in ((196, zero_list) ∷ []) x ≡ as_thing known_symbols concrete_list (variable_in by_number concrete_variables x)) refl;
  };
  after = local_after;
  ends = local_ends;
}

-- ---- what commands leave

abbrev canonical_of : Session → Stobjs ℕ
canonical_of s = canonical_stobjs s.stobjs

abbrev list_at : Session → ℕ → StobjList ℕ
list_at s x = canonical (list_of s.stobjs x)

memory : StandsAfterMemory usual known_session writing 1 (both_with 0 0) known_session
memory =
    let one : (command usual known_session writing).calls ≡ 1 = writing_counted in
    record {
      stands = record { same = refl };
      fewer = omega (arith, one);
      limit = 0;
      within = omega arith;
      lists = λ x h. ap (λ (s : Session). list_at s x) (sym writing_stopped);
      live = refl;
      environment = refl;
      symbols = ([], [], sym (append-nil known_symbols), ap (λ (s : Session). s.symbols) writing_done ∙ sym (append-nil known_symbols));
    }

-- ---- the statements are met

known_met : AreMetAt known_session
known_met = record {
  live = refl;
  concrete_one = (concrete_object, 196, concrete_stands);
  abstract_one = (abstract_object, abstract_stands);
  read_writing = writing_read;
  read_exporting = exporting_read;
  in_place = record { made = known_made; core = writing_core; progress = at_start known_symbols; makes = writing_made; accepted = writing_accepted };
  asked = asked;
  follows = followable;
  leaves = record { stands = λ h. record { same = ap canonical_of (sym writing_done) } };
  leaves_export = record { stands = λ h. record { same = ap canonical_of (sym exporting_done) } };
  memory = memory;
  cells = record { are = refl };
  cells_after = record { are = ap (λ (s : Session). cells_of s.stobjs) (sym writing_done) };
}

pub are_met_with_live_stobjs : AreMetWithLiveStobjs
are_met_with_live_stobjs = subst AreMetAt (sym session_known) known_met
