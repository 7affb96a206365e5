-- The obligations of the book's stobj hold.
use Rattle.model_abstract_books_rows.proofs.IdentityValues.{known_book}
use Rattle.model_abstract_books.specs.Commands.{theory_of}
use Rattle.std.proofs.Common.{refl, ◌≡◌, ℕ, List, [], ◌∷◌, Some, sym, ap, subst, inl, inr}
use Rattle.std.specs.Prelude.{length}
use Rattle.model_symbols.specs.Symbols.{QualifiedName, number_of}
use Rattle.model_symbols.specs.Opening.{common_lisp_text, acl2_text, common_lisp_symbols, acl2_symbols, acl2_package, opening}
use Rattle.model_prims.specs.Rows.{table}
use Rattle.model_terms.specs.Worlds.{World, AbstractDescriptor, Abstract, definition}
use Rattle.model_stobjs.specs.Obligations.{Obligation, obligations}
use Rattle.model_events.specs.Events.{Environment}
use Rattle.model_books.specs.Opening.{opening_world}
use Rattle.model_abstract_books.specs.Holding.{AllHold, ObligationsHold}
use Rattle.model_abstract_books_rows.specs.Identity.{IdentityHolds, identity_session, stobj_name}
use Rattle.model_abstract_books_rows.proofs.AbstractLemmas.{abstract_stobjs, IsAmong, is_among}
use Rattle.model_abstract_books_rows.proofs.IdentitySession.{abstract_object, entries, known_standing, known_symbols, symbols_known, standing_known}
use Rattle.model_abstract_books_rows.proofs.IdentityForms.{obligations_known}
use Rattle.model_abstract_books_rows.proofs.IdentityLemmas.{all_hold}

-- ---- the session, written out

only_one : abstract_stobjs known_standing.world ≡ abstract_object ∷ []
unfolding known_standing entries opening_world table
only_one = refl

is_only : (d : AbstractDescriptor) → IsAmong d (abstract_object ∷ []) → d ≡ abstract_object
is_only d (inl e) = e
is_only d (inr h) = absurd h

is_the_object : (x : ℕ) (d : AbstractDescriptor) → definition known_standing.world x ≡ Some (Abstract d) → d ≡ abstract_object
is_the_object x d e = is_only d (subst (λ ds. IsAmong d ds) only_one (is_among known_standing.world x d e))

known_hold : ObligationsHold known_book
known_hold = record {
  hold = λ x d e.
      subst (λ c. AllHold known_book (obligations known_standing.world known_symbols c)) (sym (is_the_object x d e))
      (subst (λ os. AllHold known_book os) (sym obligations_known) all_hold);
}

stands : definition known_standing.world 212 ≡ Some (Abstract abstract_object)
unfolding known_standing entries opening_world table
stands = refl

named : number_of known_symbols stobj_name ≡ Some 212
unfolding known_symbols opening common_lisp_text acl2_text common_lisp_symbols acl2_symbols acl2_package
named = refl

six : length (obligations known_standing.world known_symbols abstract_object) ≡ 6
six = ap (λ (os : List Obligation). length os) obligations_known

-- ---- the session of the book

world_known : identity_session.environment.world ≡ known_standing.world
world_known = ap (λ (s : Environment). s.world) standing_known

abbrev Counts : World → List QualifiedName → Type 0
Counts w symbols = length (obligations w symbols abstract_object) ≡ 6

pub identity_holds : IdentityHolds
identity_holds = record {
  count = (
    212,
    abstract_object,
    record { named = subst (λ ss. number_of ss stobj_name ≡ Some 212) (sym symbols_known) named; stands = subst (λ w. definition w 212 ≡ Some (Abstract abstract_object)) (sym world_known) stands },
    subst (λ w. Counts w identity_session.symbols) (sym world_known) (subst (λ ss. Counts known_standing.world ss) (sym symbols_known) six),
  );
  hold = subst (λ s. ObligationsHold (theory_of s identity_session.symbols)) (sym standing_known) (subst (λ ss. ObligationsHold (theory_of known_standing ss)) (sym symbols_known) known_hold);
}
