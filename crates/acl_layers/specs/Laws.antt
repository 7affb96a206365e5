-- What is said of layers as a heap grows.
use Rattle.std.specs.Prelude.{◌≡◌, ◌≤◌, List, length}
use Rattle.acl_heap.specs.Objects.{Objects, Extends}
use Rattle.acl_layers.specs.declared.layer.Left.{Left}
use Rattle.acl_layers.specs.declared.layer.Ready.{Ready}
use Rattle.acl_layers.specs.declared.layer.Part.{Part}
use Rattle.acl_layers.specs.Lists.{seen_left, LeftLies}
use Rattle.acl_layers.specs.Layers.{seen_ready, ready_reach, seen_part, seen_parts, part_reach, parts_reach, PartFits, PartsFit}

-- as a heap grows, parts go on to stand for what they stood for, and what is left of a row goes on to fit it
pub record AreKept : Type 0 where
  pub left : (h h' : Objects) (l : Left) → Extends h h' → LeftLies h l → seen_left h' l ≡ seen_left h l
  pub ready : (h h' : Objects) (r : Ready) → Extends h h' → ready_reach r ≤ length h → seen_ready h' r ≡ seen_ready h r
  pub part : (h h' : Objects) (p : Part) → Extends h h' → part_reach p ≤ length h → seen_part h' p ≡ seen_part h p
  pub parts : (h h' : Objects) (ps : List Part) → Extends h h' → parts_reach ps ≤ length h → seen_parts h' ps ≡ seen_parts h ps
  pub fits : (h h' : Objects) (p : Part) → Extends h h' → part_reach p ≤ length h → PartFits h p → PartFits h' p
  pub all_fit : (h h' : Objects) (ps : List Part) → Extends h h' → parts_reach ps ≤ length h → PartsFit h ps → PartsFit h' ps
