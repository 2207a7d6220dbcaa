-- Anchors and turns by their numbers.
use Rattle.std.specs.Prelude.{◌≡◌, ℕ, ◌+◌, ◌*◌, ◌/◌, ◌%◌, cond, IfOk, Ok, Err, Result, ◌==◌, nat_le}
use Rattle.size.specs.declared.refusal.Refusal.{Refusal}
use Rattle.size.specs.declared.refusal.Refusal.TheVariants.{Range}
use Rattle.backend.specs.declared.text_anchor.HPos.{HPos}
use Rattle.backend.specs.declared.text_anchor.HPos.TheVariants.{Left, Right}
use Rattle.backend.specs.declared.text_anchor.HPos.TheVariants.{Center as Middle}
use Rattle.backend.specs.declared.text_anchor.VPos.{VPos}
use Rattle.backend.specs.declared.text_anchor.VPos.TheVariants.{Top, Center, Bottom}
use Rattle.backend.specs.declared.text_anchor.Pos.{Pos}
use Rattle.backend.specs.declared.font.FontTransform.{FontTransform}
use Rattle.backend.specs.declared.font.FontTransform.TheVariants.{None, Rotate90, Rotate180, Rotate270}

abbrev pub across_of : HPos → ℕ
across_of Left = 0
across_of Middle = 1
across_of Right = 2

abbrev pub down_of : VPos → ℕ
down_of Top = 0
down_of Center = 1
down_of Bottom = 2

-- three times the column and the row
abbrev pub anchor_of : Pos → ℕ
anchor_of p = 3 * across_of p.h_pos + down_of p.v_pos

abbrev pub across_at : ℕ → HPos
across_at n = cond (n == 0) Left (cond (n == 1) Middle Right)

abbrev pub down_at : ℕ → VPos
down_at n = cond (n == 0) Top (cond (n == 1) Center Bottom)

-- the anchor with a number from 0 to 8
abbrev pub pos_at : ℕ → Result Pos Refusal
pos_at n = cond (nat_le n 8) (Ok (record { h_pos = across_at (n / 3); v_pos = down_at (n % 3) })) (Err Range)

-- the answer to a number is that anchor, which has the number
abbrev pub GivesPos : ℕ → Result Pos Refusal → Type 0
GivesPos n r = (r ≡ pos_at n) × IfOk r (λ p. anchor_of p ≡ n)

-- in quarter turns
abbrev pub turn_of : FontTransform → ℕ
turn_of None = 0
turn_of Rotate90 = 1
turn_of Rotate180 = 2
turn_of Rotate270 = 3

-- so many quarter turns, from 0 to 3
abbrev pub turn_at : ℕ → Result FontTransform Refusal
turn_at n = cond (n == 0) (Ok None) (cond (n == 1) (Ok Rotate90) (cond (n == 2) (Ok Rotate180) (cond (n == 3) (Ok Rotate270) (Err Range))))

-- the answer to a number is that turn, which has the number
abbrev pub GivesTurn : ℕ → Result FontTransform Refusal → Type 0
GivesTurn n r = (r ≡ turn_at n) × IfOk r (λ t. turn_of t ≡ n)
