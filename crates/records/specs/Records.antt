-- The record of each kind: its words by name, in the order of the layout, and as the list of their values.
-- Assumes nothing.
use Rattle.std.specs.Prelude.{List, [], ◌∷◌, ℕ, ℤ, pos, get_or}
use Rattle.records.specs.declared.kinds.Kind.{Kind}
use Rattle.records.specs.declared.kinds.Kind.TheVariants.{One, Two, Three, Four, Five, Even, Odd, Fourteen}
use Rattle.records.specs.declared.named.String1.{String1}
use Rattle.records.specs.declared.named.String2.{String2}
use Rattle.records.specs.declared.named.String3.{String3}
use Rattle.records.specs.declared.named.String4.{String4}
use Rattle.records.specs.declared.named.String5.{String5}
use Rattle.records.specs.declared.named.EvenString.{EvenString}
use Rattle.records.specs.declared.named.OddString.{OddString}
use Rattle.records.specs.declared.named.String14.{String14}
use Rattle.records.specs.declared.named.Record.{Record}
use Rattle.records.specs.declared.named.Record.TheVariants.{One as One', Two as Two', Three as Three', Four as Four', Five as Five', Even as Even', Odd as Odd', Fourteen as Fourteen'}

-- the j-th value
abbrev pub at : List ℤ → ℕ → ℤ
at v j = get_or v j (pos 0)

abbrev pub string1_of : List ℤ → String1
string1_of v = record { p1 = at v 0; tk = at v 1; xvel = at v 2; xacc = at v 3; x = at v 4 }

abbrev pub string1_list : String1 → List ℤ
string1_list r = r.p1 ∷ r.tk ∷ r.xvel ∷ r.xacc ∷ r.x ∷ pos 0 ∷ pos 0 ∷ pos 0 ∷ []

abbrev pub string2_of : List ℤ → String2
string2_of v = record { b = at v 0; p2 = at v 1; tb = at v 2; yvel = at v 3; yacc = at v 4; y = at v 5 }

abbrev pub string2_list : String2 → List ℤ
string2_list r = r.b ∷ r.p2 ∷ r.tb ∷ r.yvel ∷ r.yacc ∷ r.y ∷ pos 0 ∷ pos 0 ∷ []

abbrev pub string3_of : List ℤ → String3
string3_of v = record { p3 = at v 0; gamma = at v 1; p = at v 2; l = at v 3; zvel = at v 4; zacc = at v 5; z = at v 6 }

abbrev pub string3_list : String3 → List ℤ
string3_list r = r.p3 ∷ r.gamma ∷ r.p ∷ r.l ∷ r.zvel ∷ r.zacc ∷ r.z ∷ pos 0 ∷ []

abbrev pub string4_of : List ℤ → String4
string4_of v = record { tau = at v 0; dtau = at v 1; e = at v 2; p4 = at v 3; ft = at v 4; nt = at v 5; n = at v 6; m = at v 7 }

abbrev pub string4_list : String4 → List ℤ
string4_list r = r.tau ∷ r.dtau ∷ r.e ∷ r.p4 ∷ r.ft ∷ r.nt ∷ r.n ∷ r.m ∷ []

abbrev pub string5_of : List ℤ → String5
string5_of v = record { na = at v 0; tauc = at v 1; n4 = at v 2; taugps = at v 3; l = at v 4 }

abbrev pub string5_list : String5 → List ℤ
string5_list r = r.na ∷ r.tauc ∷ r.n4 ∷ r.taugps ∷ r.l ∷ pos 0 ∷ pos 0 ∷ pos 0 ∷ []

abbrev pub even_of : List ℤ → EvenString
even_of v = record { c = at v 0; ma = at v 1; na = at v 2; taua = at v 3; lambda = at v 4; di = at v 5; epsilon = at v 6 }

abbrev pub even_list : EvenString → List ℤ
even_list r = r.c ∷ r.ma ∷ r.na ∷ r.taua ∷ r.lambda ∷ r.di ∷ r.epsilon ∷ pos 0 ∷ []

abbrev pub odd_of : List ℤ → OddString
odd_of v = record { omega = at v 0; tlambda = at v 1; dt = at v 2; dtrate = at v 3; h = at v 4; l = at v 5 }

abbrev pub odd_list : OddString → List ℤ
odd_list r = r.omega ∷ r.tlambda ∷ r.dt ∷ r.dtrate ∷ r.h ∷ r.l ∷ pos 0 ∷ pos 0 ∷ []

abbrev pub string14_of : List ℤ → String14
string14_of v = record { b1 = at v 0; b2 = at v 1; kp = at v 2 }

abbrev pub string14_list : String14 → List ℤ
string14_list r = r.b1 ∷ r.b2 ∷ r.kp ∷ pos 0 ∷ pos 0 ∷ pos 0 ∷ pos 0 ∷ pos 0 ∷ []

-- ---- any kind
abbrev pub kind_of : Record → Kind
kind_of (One' r) = One
kind_of (Two' r) = Two
kind_of (Three' r) = Three
kind_of (Four' r) = Four
kind_of (Five' r) = Five
kind_of (Even' r) = Even
kind_of (Odd' r) = Odd
kind_of (Fourteen' r) = Fourteen

unfoldable pub list_of : Record → List ℤ
list_of (One' r) = string1_list r
list_of (Two' r) = string2_list r
list_of (Three' r) = string3_list r
list_of (Four' r) = string4_list r
list_of (Five' r) = string5_list r
list_of (Even' r) = even_list r
list_of (Odd' r) = odd_list r
list_of (Fourteen' r) = string14_list r

unfoldable pub record_of : Kind → List ℤ → Record
record_of One v = One' (string1_of v)
record_of Two v = Two' (string2_of v)
record_of Three v = Three' (string3_of v)
record_of Four v = Four' (string4_of v)
record_of Five v = Five' (string5_of v)
record_of Even v = Even' (even_of v)
record_of Odd v = Odd' (odd_of v)
record_of Fourteen v = Fourteen' (string14_of v)
