-- The laws on parts, each from the lemma that what is found fits.
use Rattle.std.proofs.Common.{ℕ, List, Option, subst}
use Rattle.std.specs.Prelude.{option_and_then}
use Rattle.model_objects.specs.Object.{Object}
use Rattle.model_expansion.specs.Layers.{Found, Made, made_of}
use Rattle.model_expansion.specs.Expansion.{Expanded, Look, look_at}
use Rattle.model_expansion_parts.specs.Laws.{RowsHaveParts, LooksHaveParts, PlacesHaveParts, NodesHaveParts, PartsAreKnown}
use Rattle.model_expansion_parts.proofs.RowLemmas.{FitsIfAny, made_fits}
use Rattle.model_expansion_parts.proofs.PlaceLemmas.{LookFits, OutcomeFits, PlaceFits, option_fits, core_fits, call_fits, look_fits, built_fits, looked_fits, settled_fits, settle_fits, row_fits, part_fits}
use Rattle.model_expansion_parts.proofs.NodeLemmas.{grown_count, node_parts}
use Rattle.model_expansion_parts.proofs.KnownRowLemmas.{KnowsIfAny, made_known}
use Rattle.model_expansion_parts.proofs.KnownPlaceLemmas.{AllKnownIfAny, look_known, values_known, node_known}

pub rows_have_parts : RowsHaveParts
rows_have_parts = record {
  made = λ symbols row os k ps e. subst (λ (m : Option Made). FitsIfAny m) e (made_fits symbols row os);
  built = λ x s row d p q k ps e. subst (λ (m : Expanded Made). OutcomeFits m) e (built_fits x s row d p);
}

pub looks_have_parts : LooksHaveParts
looks_have_parts = record {
  core = λ symbols s row os k ps e. subst (λ (l : Look). LookFits l) e (core_fits s (option_and_then (made_of symbols row) os) (option_fits symbols row os));
  call = λ s arity os k ps e. subst (λ (l : Look). LookFits l) e (call_fits s arity os);
  place = λ x symbols o k ps e. subst (λ (l : Look). LookFits l) e (look_fits x symbols o);
}

pub places_have_parts : PlacesHaveParts
places_have_parts = record {
  looked = λ x symbols o p q k ps e. subst (λ (m : Expanded Made). OutcomeFits m) e (looked_fits x (look_at x symbols o) p (look_fits x symbols o));
  settled = λ x left o p q k ps e. subst (λ (m : Expanded Found). PlaceFits m) e (settled_fits x left o p);
  settle = λ x o p q k ps e. subst (λ (m : Expanded Found). PlaceFits m) e (settle_fits x o p);
  row = λ x row os p q k ps e. subst (λ (m : Expanded Found). PlaceFits m) e (row_fits x (made_of p.symbols row os) p (made_fits p.symbols row os));
  part = λ x left a p q k ps e. subst (λ (m : Expanded Found). PlaceFits m) e (part_fits x left a p);
}

pub nodes_have_parts : NodesHaveParts
nodes_have_parts = record {
  all = grown_count;
  node = λ x left a p before after k ps grow fs e f. node_parts k ps grow before after fs (subst (λ (m : Expanded Found). PlaceFits m) e (part_fits x left a p)) f;
}

pub parts_are_known : PartsAreKnown
parts_are_known = record {
  made = λ n symbols row os m two g h e. subst (λ (m : Option Made). KnowsIfAny n m) e (made_known n symbols two row os g h);
  look = λ n x symbols o s h. look_known n x s symbols o h;
  values = λ n symbols formals os vs two d h e. subst (λ (v : Option (List (Object ℕ))). AllKnownIfAny n v) e (values_known n two symbols formals d os h);
  node = λ n k fs two h. node_known n two k fs h;
}
