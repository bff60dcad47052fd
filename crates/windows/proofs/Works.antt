-- Work on a window: none (works-none), one piece after another (works-then), a byte passed with nothing told (works-pass), an item told (works-tell).
-- Assumes nothing.
use Prim.Native.Nat.{ℕ, ◌+◌, ◌-◌, ◌≤◌}
use native.Mathlib.Omega.{arith}
use mathlib.Core.Path.{◌≡◌, refl, sym, ap, ap₂, ◌∙◌}
use mathlib.Core.Bool.{Bool}
use mathlib.Core.List.{List, [], ◌∷◌, ◌++◌, append_assoc, append-nil}
use lib.ListN.{length, take, drop}
use lib.Seq.{drop-drop, sets-eq, length-sets}
use Rattle.digits.specs.Text.{Puts}
use Rattle.salvage.specs.Items.{Item}
use Rattle.salvage.proofs.Lists.{take_laid, drop_laid}
use Rattle.windows.specs.declared.Wanted.{Wanted}
use Rattle.windows.specs.declared.Stands.{Stands}
use Rattle.windows.specs.declared.Turn.{Turn}
use Rattle.windows.specs.Shown.{shown_of, shown}
use Rattle.windows.specs.Window.{Window, left_at, turn_at, Began, Tells, Works}

pub shown_append : (wanted : Wanted) (file : List ℕ) (a b : List Item) → shown wanted file (a ++ b) ≡ shown wanted file a ++ shown wanted file b
unfolding shown
shown_append wanted file [] b = refl
shown_append wanted file (i ∷ a) b =
    ap (λ (l : List ℕ). shown_of wanted file i ++ l) (shown_append wanted file a b)
    ∙ sym (append_assoc (shown_of wanted file i) (shown wanted file a) (shown wanted file b))

shown_one : (wanted : Wanted) (file : List ℕ) (i : Item) → shown wanted file (i ∷ []) ≡ shown_of wanted file i
unfolding shown
shown_one wanted file i = append-nil (shown_of wanted file i)

-- ---- a file
module _ {wanted : Wanted} {file : List ℕ} where
  tells_none : {at at' : ℕ} {stands stands' : Stands} {text : List ℕ} → left_at file at stands ≡ left_at file at' stands'
      → Tells wanted file at stands at' stands' text text
  unfolding shown
  tells_none {text = text} e = record { told = []; items = e; shows = sym (append-nil text) }

  tells_one : {at at' : ℕ} {stands stands' : Stands} {text text' : List ℕ} (i : Item) → left_at file at stands ≡ i ∷ left_at file at' stands'
      → text' ≡ text ++ shown_of wanted file i → Tells wanted file at stands at' stands' text text'
  tells_one {text = text} i e s = record { told = i ∷ []; items = e; shows = s ∙ ap (λ (l : List ℕ). text ++ l) (sym (shown_one wanted file i)) }

  tells_then : {at at' at'' : ℕ} {stands stands' stands'' : Stands} {text text' text'' : List ℕ} → Tells wanted file at stands at' stands' text text'
      → Tells wanted file at' stands' at'' stands'' text' text'' → Tells wanted file at stands at'' stands'' text text''
  tells_then {at'' = at''} {stands'' = stands''} {text = text} a b =
      record {
        told = a.told ++ b.told;
        items = a.items ∙ ap (λ (l : List Item). a.told ++ l) b.items ∙ sym (append_assoc a.told b.told (left_at file at'' stands''));
        shows = b.shows ∙ ap (λ (l : List ℕ). l ++ shown wanted file b.told) a.shows
            ∙ append_assoc text (shown wanted file a.told) (shown wanted file b.told)
            ∙ ap (λ (l : List ℕ). text ++ l) (sym (shown_append wanted file a.told b.told));
      }

-- ---- what stays behind stays further behind
drop_more : (w v : ℕ) (x y : List ℕ) → w ≤ v → drop w x ≡ drop w y → drop v x ≡ drop v y
drop_more w v x y h e =
    let k : w + (v - w) ≡ v = omega arith in
    ap (λ (n : ℕ). drop n x) (sym k) ∙ sym (drop-drop (v - w) w x) ∙ ap (drop (v - w)) e ∙ drop-drop (v - w) w y ∙ ap (λ (n : ℕ). drop n y) k

-- ---- a piece put into an output: what then stands up to its end, and behind it
module _ {out out' piece : List ℕ} {written end : ℕ} (p : Puts out written piece out' end) (fits : written + length piece ≤ length out) where
  laid_in : out' ≡ take written out ++ (piece ++ drop (written + length piece) out)
  laid_in = p.written ∙ sets-eq piece out written fits ∙ append_assoc (take written out) piece (drop (written + length piece) out)

  front : take end out' ≡ take written out ++ piece
  front = ap₂ take p.past laid_in ∙ take_laid out piece written (length piece) (omega arith) refl

  back : drop end out' ≡ drop end out
  back = ap₂ drop p.past laid_in ∙ drop_laid out piece written (length piece) (omega arith) refl ∙ ap (λ (n : ℕ). drop n out) (sym p.past)

-- ---- a window
module _ {wanted : Wanted} {window : List ℕ} {last : Bool} {first : ℕ} where
  pub works_none : (t : Turn) (out : List ℕ) → t.passed ≤ length window → t.written ≤ length out → Began t.stands (first + t.passed)
      → Works wanted window last first t out t out
  works_none t out p w b =
      record {
        tells = λ file v. tells_none refl;
        onward = omega arith;
        within = p;
        began = b;
        more = omega arith;
        room = w;
        long = refl;
        behind = refl;
      }

  pub works_then : {s t r : Turn} {out out' out'' : List ℕ} → Works wanted window last first s out t out' → Works wanted window last first t out' r out''
      → Works wanted window last first s out r out''
  works_then {t = t} {r = r} {out = out} {out' = out'} a b =
      record {
        tells = λ file v. tells_then (a.tells file v) (b.tells file v);
        onward = omega (arith, a.onward, b.onward);
        within = b.within;
        began = b.began;
        more = omega (arith, a.more, b.more);
        room = omega (arith, b.room, a.long);
        long = b.long ∙ a.long;
        behind = b.behind ∙ drop_more t.written r.written out' out b.more a.behind;
      }

  -- on to another place, with nothing told
  pub works_pass : {at at' written : ℕ} {stands stands' : Stands} {out : List ℕ}
      → ((file : List ℕ) → Window file first last window → left_at file (first + at) stands ≡ left_at file (first + at') stands')
      → at ≤ at' → at' ≤ length window → written ≤ length out → Began stands' (first + at')
      → Works wanted window last first (turn_at at written stands) out (turn_at at' written stands') out
  works_pass e o p w b =
      record {
        tells = λ file v. tells_none (e file v);
        onward = o;
        within = p;
        began = b;
        more = omega arith;
        room = w;
        long = refl;
        behind = refl;
      }

  -- on to another place, with an item told
  pub works_tell : {at at' written end : ℕ} {stands stands' : Stands} {out out' piece : List ℕ} → Puts out written piece out' end
      → written + length piece ≤ length out → (i : Item)
      → ((file : List ℕ) → Window file first last window
      → (left_at file (first + at) stands ≡ i ∷ left_at file (first + at') stands') × (piece ≡ shown_of wanted file i))
      → at ≤ at' → at' ≤ length window → Began stands' (first + at')
      → Works wanted window last first (turn_at at written stands) out (turn_at at' end stands') out'
  works_tell {written = written} {out = out} {piece = piece} p fits i e o q b =
      record {
        tells = λ file v. tells_one i (e file v).0 (front p fits ∙ ap (λ (l : List ℕ). take written out ++ l) (e file v).1);
        onward = o;
        within = q;
        began = b;
        more = omega (arith, p.past);
        room = omega (arith, p.past);
        long = ap length p.written ∙ length-sets out written piece;
        behind = back p fits;
      }
