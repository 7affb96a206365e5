use Rattle.std.specs.Prelude.{◌∷◌, [], nat_eq}
use Rattle.std.proofs.lemmas.List.{map-append}
use Rattle.acl_terms.specs.Definitions.{seen_definition}
use Rattle.std.specs.List.{IsDistinct}
use Rattle.std.proofs.Common.{sym, subst}
use Rattle.acl_terms.specs.Growth.{seen_definitions-later}
use Rattle.acl_worlds.specs.Laws.{AreWorlds}
use Rattle.acl_worlds.proofs.WorldLemmas.{definition_at, seen_names, added_name, map_set, map_take}

pub are_worlds : AreWorlds
are_worlds = record {
  definition = definition_at;
  distinct = λ h w i. subst (λ ns. IsDistinct nat_eq ns) (sym (seen_names h w.definitions)) i.distinct;
  later = λ h h' w e l. seen_definitions-later e w.definitions l;
  added = added_name;
  seen_added = λ h w d. map-append (seen_definition h) w.definitions (d ∷ []);
  seen_settled = λ h w n d. map_set (seen_definition h) w.definitions n d;
  seen_cut = λ h w n k. map_take (seen_definition h) n w.definitions;
}
