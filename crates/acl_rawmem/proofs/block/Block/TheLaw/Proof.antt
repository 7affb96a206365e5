-- A `&` to a block is a `&` to its elements.
use Rattle.std.proofs.Common.{sym, subst, ℕ, zero, suc, ◌-◌, List, [], length}
use seplogic.Ra.Ura.{Ura}
use mir.Syntax.{Ty}
use base.Fml.{Lft, Fml, Incl, fsep, feq}
use base.Fraction.{full_share}
use contract.BorrowLft.{meet_⊑_left, ⊑_trans}
use types.Logic.{Logic}
use denote.RattleType.{RattleType}
use denote.RawPtr.{Ptr, lies_at}
use denote.Array.{Array, Array-row_laws}
use denote.ArrayMemory.{Single}
use denote.Sharing.{ShrLaws, said}
use denote.SharingLaws.{said_shr_laws, beside_shr_laws}
use denote.Shares.{Shares-less, Shares-Array}
use denote.Param.Laws.{Laws}
use denote.Param.Shared.{copy_shared}
use denote.Struct.Field.{RawPtr-field}
use denote.Struct.Laws.{RawPtr-copy}
use denote.Struct.Lending.{Lends, Lends-said, Lends-lies, Lends-first, Lends-both, lent_at, lent_at_shr_laws, of_Lends}
use Rattle.std.specs.Allocator.{array_of}
use Rattle.std.specs.declared.alloc.Allocator.{Ghosts}
use Rattle.std.proofs.marker.PhantomData.TheLaws as phantom
use Rattle.std.specs.contracts.marker.PhantomData.{the_row as phantom_row}
use Rattle.acl_rawmem.specs.Owned.{owned, lent, fits, room_after}
use Rattle.acl_rawmem.specs.contracts.block.Block as block
use Rattle.acl_rawmem.proofs.block.Block.TheLaw.Statement.{statement}

single : (R : RattleType) → Laws R → Single R.mir
single R L = subst Single (sym L.one) tt

lent_laws : (R : RattleType) → Laws R → (p : Ptr) (n : ℕ) (xs : List R.Denot) → ShrLaws (lent R p n xs)
lent_laws R L p zero xs = said_shr_laws (feq (List R.Denot) xs []) tt
lent_laws R L p (suc n) xs =
    beside_shr_laws (lent_at (Array R (length xs)) p xs) (said (fits R (length xs) (suc n)))
    (lent_at_shr_laws (Array R (length xs)) (Array-row_laws R L.shr_laws (length xs)) p xs)
    (said_shr_laws (fits R (length xs) (suc n)) (tt, tt))

lends : {M : Type 1} {𝓤 : Ura M} (𝓛 : Logic 𝓤) (holds : Ty → Ptr → Fml) (R : RattleType) → Laws R → (l : Lft) → Incl l R.lives → (p : Ptr) (n : ℕ) (xs : List R.Denot)
    → Lends 𝓛 (owned holds R p n xs) (lent R p n xs) l
lends 𝓛 holds R L l within p zero xs = Lends-said 𝓛 (feq (List R.Denot) xs []) tt l
lends 𝓛 holds R L l within p (suc n) xs =
    let A : RattleType = Array R (length xs) in let F : Fml = fits R (length xs) (suc n) in
    let G : Fml = fsep (room_after R (length xs) (suc n - length xs) p) (holds (array_of R (suc n)) p) in
    Lends-both 𝓛 (lies_at A full_share p xs) (fsep F G) (lent_at A p xs) (said F) l
    (Lends-lies 𝓛 A l p xs (Shares-less 𝓛 A R.lives l within (Shares-Array 𝓛 R (single R L) (length xs) R.lives (L.shares 𝓛)) xs))
    (Lends-first 𝓛 F G (said F) l (Lends-said 𝓛 F (tt, tt) l))

pub shares : (T T' : RattleType) (g : Ghosts T'.Denot) (L : Laws T) (L' : Laws T') → statement T T' g L L'
shares T T' g L L' =
    of_Lends (block.struct T T' g) (block.the_codes T.Denot T'.Denot T.coded T'.coded (phantom_row T').coded) (block.the_heap T T' g) (block.the_lent T T' g)
    (λ d p. lent_laws T L d.at d.room d.items)
    (copy_shared RawPtr-field RawPtr-copy, (phantom.the_field_shared T' L', tt))
    (λ M 𝓤 𝓛 d p. lends 𝓛 (g.dealloc_token d.heap) T L _ (⊑_trans _ _ _ (meet_⊑_left _ _) (meet_⊑_left _ _)) d.at d.room d.items)
