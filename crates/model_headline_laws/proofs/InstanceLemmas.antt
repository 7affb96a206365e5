-- Sessions and books that meet the statements; and what is held is what is printed.
use Rattle.model_prims.specs.Rows.{table}
use Rattle.model_headline.specs.Logic.{IsAsked}
use Rattle.model_abstract_books_rows.proofs.AbstractLemmas.{abstract_stobjs, IsAmong, is_among}
use Rattle.model_abstract_books.specs.Holding.{ObligationsHold}
use Rattle.model_abstract_books.specs.Commands.{theory_of}
use Rattle.model_abstract.specs.Corresponding.{Correspond}
use Rattle.model_terms.specs.Worlds.{World, AbstractDescriptor, Abstract, definition}
use Rattle.std.proofs.Common.{arith, ◌≡◌, ℕ, [], ◌∷◌, ◌∙◌, refl, sym, ap, subst, Some}
use Rattle.std.proofs.lemmas.List.{append-nil}
use Rattle.model_symbols.specs.Growth.{AreDistinct}
use Rattle.model_lists.specs.Lists.{StobjList}
use Rattle.model_eval_alike.specs.Alike.{canonical_stobjs}
use Rattle.model_eval.specs.Variables.{list_of}
use Rattle.model_lists.specs.Normal.{canonical}
use Rattle.model_lists_laws.proofs.CanonicalLemmas.{canonical_lists}
use Rattle.model_eval.specs.Outcomes.{Stobjs}
use Rattle.model_eval.specs.Evaluated.{evaluated}
use Rattle.model_expansion.specs.Expansion.{look_at, settled, grown_all, grown}
use Rattle.model_terms.specs.Faults.{first_in, first_at, first_fault}
use Rattle.model_terms.specs.Sites.{below, below_parts, below_actuals}
use Rattle.model_terms.specs.Outputs.{outputs}
use Rattle.model_events.specs.Events.{Limits}
use Rattle.model_books.specs.Opening.{Session, opening_session, opening_world}
use Rattle.model_books.specs.Commands.{all_cells, command}
use Rattle.model_books_rows.proofs.RowThreeCommands.{is_computed}
use Rattle.model_headline.specs.Written.{cells_of}
use Rattle.model_headline_laws.specs.Instances.{AreMet, AreKnownLists, HeldCellsArePrinted, usual, five}

-- the command `5` changes nothing, whatever the limit of calls is
unchanged : (s : Session) → (command usual s five).session ≡ s
unfolding command look_at settled grown_all grown evaluated first_in first_at first_fault below below_parts below_actuals outputs
unchanged s = refl

abbrev no_calls : Limits
no_calls = record usual { steps = 0 }

unchanged_without_calls : (s : Session) → (command no_calls s five).session ≡ s
unfolding command look_at settled grown_all grown evaluated first_in first_at first_fault below below_parts below_actuals outputs
unchanged_without_calls s = refl

no_live : opening_session.stobjs ≡ []
unfolding opening_session
no_live = refl

-- ---- where a session begins no stobj is abstract, so all obligations hold there

none_abstract : abstract_stobjs opening_world ≡ []
unfolding opening_world table
none_abstract = refl

world_at_first : opening_session.environment.world ≡ opening_world
unfolding opening_session
world_at_first = refl

no_object : (x : ℕ) (d : AbstractDescriptor) → definition opening_session.environment.world x ≡ Some (Abstract d) → ⊥
no_object x d e =
    let found : IsAmong d (abstract_stobjs opening_world) = is_among opening_world x d (subst (λ (w : World). definition w x ≡ Some (Abstract d)) world_at_first e) in
    subst (λ ds. IsAmong d ds) none_abstract found

hold_at_first : ObligationsHold (theory_of opening_session.environment opening_session.symbols)
hold_at_first = record { hold = λ x d e. absurd (no_object x d e) }

abbrev hold_in : Session → Type 0
hold_in s = ObligationsHold (theory_of s.environment s.symbols)

correspond_at_first : Correspond (theory_of opening_session.environment opening_session.symbols) opening_session.stobjs []
unfolding opening_session
correspond_at_first = tt

asked : IsAsked usual opening_session five []
asked = record {
  made = ([], tt, refl);
  known = tt;
  value = refl;
  hold = subst hold_in (sym (unchanged opening_session)) hold_at_first;
  correspond = correspond_at_first;
}

abbrev canonical_of : Session → Stobjs ℕ
canonical_of s = canonical_stobjs s.stobjs

abbrev list_at : Session → ℕ → StobjList ℕ
list_at s x = canonical (list_of s.stobjs x)

none_canonical : [] ≡ canonical_of opening_session
unfolding opening_session
none_canonical = refl

pub are_met : AreMet
are_met = record {
  writes = record { is = is_computed.is_written };
  made = ([], tt, refl);
  leaves = record { stands = λ h. record { same = none_canonical ∙ ap canonical_of (sym (unchanged opening_session)) } };
  begins = record { same = none_canonical };
  memory = record {
    stands = record { same = none_canonical };
    fewer = omega arith;
    limit = 0;
    within = omega arith;
    lists = λ x h. ap (λ (s : Session). list_at s x) (sym (unchanged_without_calls opening_session));
    live = refl;
    environment = refl;
    symbols = ([], [], sym (append-nil opening_session.symbols), ap (λ (s : Session). s.symbols) (unchanged opening_session) ∙ sym (append-nil opening_session.symbols));
  };
  cells = record { are = ap cells_of (sym no_live) };
  asked = asked;
}

same_cells : (k : Limits) (s : Session) (os : Stobjs ℕ) → AreDistinct s.symbols → AreKnownLists s.symbols os → cells_of os ≡ all_cells k s os
same_cells k s [] d h = refl
same_cells k s (o ∷ os) d h = rw (canonical_lists.held s.symbols o.1 d h.0, same_cells k s os d h.1) refl

pub held_cells_are_printed : HeldCellsArePrinted
held_cells_are_printed = record { same = λ k s d h. same_cells k s s.stobjs d h }
