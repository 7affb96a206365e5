-- The laws of growth.
use Rattle.acl_forms.specs.Growth.{Grown-self, Grown-then, Grown-heap, Grown-symbols, Grown-both}
use Rattle.acl_forms.specs.Laws.{IsGrowth}

pub is_growth : IsGrowth
is_growth = record {
  self = Grown-self;
  next = λ a b c x y z e f. Grown-then e f;
  heap = λ t h h' e. Grown-heap e;
  table = λ t t' h e. Grown-symbols e;
  both = λ t t' h h' e f. Grown-both e f;
}
