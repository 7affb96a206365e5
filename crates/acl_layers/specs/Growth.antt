-- What layers stand for stays when the heap grows.
use Rattle.std.specs.Prelude.{◌≡◌, ◌≤◌, List, [], ◌∷◌, ◌++◌, length, Option, Some, None, refl}
use Rattle.std.proofs.Common.{sym, ap, ◌∙◌, subst, arith}
use Rattle.model_terms.specs.Cores as cores
use Rattle.model_expansion.specs.Layers as layers
use Rattle.model_expansion.specs.Layers.{key_test}
use Rattle.acl_base.specs.declared.Word.{Word}
use Rattle.acl_heap.specs.Objects.{Objects, object_of, Extends}
use Rattle.acl_layers.specs.declared.rows.Row.{Row}
use Rattle.acl_layers.specs.declared.rows.Row.TheVariants as row
use Rattle.acl_layers.specs.declared.layer.Left.{Left}
use Rattle.acl_layers.specs.declared.layer.Ready.{Ready}
use Rattle.acl_layers.specs.declared.layer.Ready.TheVariants as ready
use Rattle.acl_layers.specs.declared.layer.Part.{Part}
use Rattle.acl_layers.specs.declared.layer.Part.TheVariants as part
use Rattle.acl_layers.specs.Rows.{seen_row}
use Rattle.acl_layers.specs.Lists.{items_along, last_item, seen_left, left_reach, option_reach}
use Rattle.acl_layers.specs.Layers.{hidden_test, seen_ready, ready_reach, seen_part, seen_parts, part_reach, parts_reach, AreClauses, RestFits, PartFits, PartsFit}

module _ {h h' : Objects} (e : Extends h h') where
  last_kept : (w : Option Word) → option_reach w ≤ length h → last_item h' w ≡ last_item h w
  last_kept None l = refl
  last_kept (Some w) l = ap (λ o. o ∷ []) (e.same w l)

  pub seen_left-later : (m : Left) → left_reach m ≤ length h → seen_left h' m ≡ seen_left h m
  seen_left-later m l =
      ap (λ o. items_along o ++ last_item h' m.last) (e.same m.list (omega (arith, l)))
      ∙ ap (λ os. items_along (object_of h m.list) ++ os) (last_kept m.last (omega (arith, l)))

  pub seen_ready-later : (r : Ready) → ready_reach r ≤ length h → seen_ready h' r ≡ seen_ready h r
  seen_ready-later (ready.Variable x) l = refl
  seen_ready-later (ready.Constant w) l = ap cores.Const (e.same w l)
  seen_ready-later (ready.KeyTest w) l = ap (key_test []) (e.same w l)
  seen_ready-later (ready.TypeTest w) l = ap hidden_test (e.same w l)

  pub seen_part-later : (p : Part) → part_reach p ≤ length h → seen_part h' p ≡ seen_part h p
  seen_part-later (part.Form w) l = ap layers.Form (e.same w l)
  seen_part-later (part.Ready r) l = ap layers.Ready (seen_ready-later r l)
  seen_part-later (part.Rest m left) l = ap (layers.Rest (seen_row m)) (seen_left-later left l)

  pub seen_parts-later : (ps : List Part) → parts_reach ps ≤ length h → seen_parts h' ps ≡ seen_parts h ps
  seen_parts-later [] l = refl
  seen_parts-later (p ∷ ps) l = rw (seen_part-later p (omega (arith, l)), seen_parts-later ps (omega (arith, l))) refl

  clauses_kept : (m : Left) → left_reach m ≤ length h → AreClauses (seen_left h m) → AreClauses (seen_left h' m)
  clauses_kept m l a = subst AreClauses (sym (seen_left-later m l)) a

  pub rest_fits-later : (m : Row) (left : Left) → left_reach left ≤ length h → RestFits h m left → RestFits h' m left
  rest_fits-later row.CondRest left l f = clauses_kept left l f
  rest_fits-later row.CondTest left l f = clauses_kept left l f
  rest_fits-later m left l f = f

  pub part_fits-later : (p : Part) → part_reach p ≤ length h → PartFits h p → PartFits h' p
  part_fits-later (part.Form w) l f = f
  part_fits-later (part.Ready r) l f = f
  part_fits-later (part.Rest m left) l f = rest_fits-later m left l f

  pub parts_fit-later : (ps : List Part) → parts_reach ps ≤ length h → PartsFit h ps → PartsFit h' ps
  parts_fit-later [] l f = tt
  parts_fit-later (p ∷ ps) l f = (part_fits-later p (omega (arith, l)) f.0, parts_fit-later ps (omega (arith, l)) f.1)
