-- A fabric means a size m and which of the links 1 to m carry: m flags, that of link k at place k - 1.
use Rattle.std.specs.Prelude.{◌≡◌, ℕ, ◌-◌, ◌<◌, Bool, true, false, cond, List, length, Some, None, Ok, Err, Option, Result, ◌==◌, nat_le, slice_index_or, slice_set}
use Rattle.faults.specs.declared.FabricFault.{FabricFault}
use Rattle.faults.specs.declared.FabricFault.TheVariants.{LinkOutside, CarriesAlready, CarriesNot}

-- Whether link k carries.
abbrev pub carries : List Bool → ℕ → Bool
carries c k = slice_index_or c (k - 1) false

-- Whether k is one of the links 1 to m.
abbrev pub within : ℕ → ℕ → Bool
within m k = cond (k == 0) false (nat_le k m)

-- Whether the fabric has a link k.
abbrev pub among : List Bool → ℕ → Bool
among c k = within (length c) k

-- Why look refuses link k, if it does: the fabric has no such link.
abbrev pub look_fault : List Bool → ℕ → Option FabricFault
look_fault c k = cond (among c k) None (Some (LinkOutside k))

-- Why enable refuses link k, if it does: the fabric has no such link, or it carries already.
abbrev pub enable_fault : List Bool → ℕ → Option FabricFault
enable_fault c k = cond (among c k) (cond (carries c k) (Some (CarriesAlready k)) None) (Some (LinkOutside k))

-- Why disable refuses link k, if it does: the fabric has no such link, or it does not carry.
abbrev pub disable_fault : List Bool → ℕ → Option FabricFault
disable_fault c k = cond (among c k) (cond (carries c k) None (Some (CarriesNot k))) (Some (LinkOutside k))

-- The answer of look at the carrying links c.
abbrev pub Looks : List Bool → ℕ → Result Bool FabricFault → Type 0
Looks c k (Ok b) = (look_fault c k ≡ None) × (b ≡ carries c k)
Looks c k (Err f) = look_fault c k ≡ Some f

-- The answer of enable, with the carrying links c before and d after.
abbrev pub Enables : {U : Type 0} → List Bool → ℕ → Result U FabricFault → List Bool → Type 0
Enables c k (Ok u) d = (enable_fault c k ≡ None) × (d ≡ slice_set c (k - 1) true)
Enables c k (Err f) d = (enable_fault c k ≡ Some f) × (d ≡ c)

-- The answer of disable, with the carrying links c before and d after.
abbrev pub Disables : {U : Type 0} → List Bool → ℕ → Result U FabricFault → List Bool → Type 0
Disables c k (Ok u) d = (disable_fault c k ≡ None) × (d ≡ slice_set c (k - 1) false)
Disables c k (Err f) d = (disable_fault c k ≡ Some f) × (d ≡ c)

-- The place of link k among m links, counted from 0, or the refusal of a link that is not there.
abbrev pub Places : ℕ → ℕ → Result ℕ FabricFault → Type 0
Places m k (Ok i) = (within m k ≡ true) × (i ≡ k - 1) × (i < m)
Places m k (Err f) = (within m k ≡ false) × (f ≡ LinkOutside k)

-- The answer of the call that turns link k on or off, with the carrying links c before and d after.
abbrev pub Turns : {U : Type 0} → List Bool → ℕ → Bool → Result U FabricFault → List Bool → Type 0
Turns c k true r d = Enables c k r d
Turns c k false r d = Disables c k r d

-- Why link k, whose flag is b, is not turned on or off, if it is not: it carries already, or it does not carry.
abbrev pub flag_fault : ℕ → Bool → Bool → Option FabricFault
flag_fault k b true = cond b (Some (CarriesAlready k)) None
flag_fault k b false = cond b None (Some (CarriesNot k))
