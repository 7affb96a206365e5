-- The laws of growth of layers.
use Rattle.acl_layers.specs.Growth.{seen_left-later, seen_ready-later, seen_part-later, seen_parts-later, part_fits-later, parts_fit-later}
use Rattle.acl_layers.specs.Laws.{AreKept}

pub are_kept : AreKept
are_kept = record {
  left = λ h h' l e r. seen_left-later e l r;
  ready = λ h h' x e r. seen_ready-later e x r;
  part = λ h h' p e r. seen_part-later e p r;
  parts = λ h h' ps e r. seen_parts-later e ps r;
  fits = λ h h' p e r f. part_fits-later e p r f;
  all_fit = λ h h' ps e r f. parts_fit-later e ps r f;
}
