-- What is said of growth, as laws.
use Rattle.model_symbols.specs.Symbols.{Table}
use Rattle.model_symbols.specs.Growth as tables
use Rattle.acl_heap.specs.Objects.{Objects}
use Rattle.acl_heap.specs.Objects as heaps
use Rattle.acl_forms.specs.Forms.{Grown}

-- growth holds of what stays, of steps one after another, and wherever the heap grew, the table did, or both
pub record IsGrowth : Type 0 where
  pub self : (t : Table) (h : Objects) → Grown t t h h
  pub next : (a b c : Table) (x y z : Objects) → Grown a b x y → Grown b c y z → Grown a c x z
  pub heap : (t : Table) (h h' : Objects) → heaps.Extends h h' → Grown t t h h'
  pub table : (t t' : Table) (h : Objects) → tables.Extends t t' → Grown t t' h h
  pub both : (t t' : Table) (h h' : Objects) → heaps.Extends h h' → tables.Extends t t' → Grown t t' h h'
