-- Nothing is in the way exactly where all that stands above lets pass, and there is one first obstacle.
use Rattle.std.proofs.Common.{◌≡◌, ℕ, List, [], ◌∷◌, Option, Some, None, refl, sym, ◌∙◌}
use Rattle.std.specs.List.{AllByRecursion}
use Rattle.pc_word.specs.declared.item.Item.{Item}
use Rattle.pc_word.specs.declared.item.Operand.{Operand}
use Rattle.pc_linear.specs.Form.{Form}
use Rattle.pc_waiting.specs.declared.obstacle.Obstacle.{Obstacle}
use Rattle.pc_waiting.specs.declared.obstacle.Waiting.{Waiting}
use Rattle.pc_waiting.specs.declared.path.Above.{Above}
use Rattle.pc_waiting.specs.declared.room.Room.{Room}
use Rattle.pc_waiting.specs.Waiting.{LetsPass, FirstInWay, Nothing_above, Stopped_before, Stopped_here, Passes, FirstObstacle, Is_needed, Is_in_way, Is_room}
use Rattle.pc_waiting.specs.Waiting.{Standing, waits_for, AreWaiting, No_more, One_waits, One_is_free}
use Rattle.pc_waiting.specs.Laws.{WaitsHaveOneAnswer}

-- all of these let an item, or a test, pass
abbrev pub AllPass : (ℕ → Form) → Option Item → List Above → Type 0
AllPass forms what above = AllByRecursion (λ last. LetsPass forms last.kind what) above

module _ (forms : ℕ → Form) (first : ℕ) (what : Option Item) where
  pub all_pass : (above : List Above) (found : Option Obstacle) → FirstInWay forms first what above found → found ≡ None → AllPass forms what above
  all_pass above found Nothing_above e = tt
  all_pass above found (Stopped_before last above' obstacle before) e = absurd (cc)
  all_pass above found (Stopped_here last above' before stops) e = absurd (cc)
  all_pass above found (Passes last above' before passes) e = (passes, all_pass above' None before refl)

  pub none_stops : (above : List Above) (found : Option Obstacle) → FirstInWay forms first what above found → AllPass forms what above → found ≡ None
  none_stops above found Nothing_above h = refl
  none_stops above found (Stopped_before last above' obstacle before) h = none_stops above' (Some obstacle) before h.1
  none_stops above found (Stopped_here last above' before stops) h = absurd (stops h.0)
  none_stops above found (Passes last above' before passes) h = refl

  one_in_way : (above : List Above) (a b : Option Obstacle) → FirstInWay forms first what above a → FirstInWay forms first what above b → a ≡ b
  one_in_way [] a b Nothing_above Nothing_above = refl
  one_in_way (last ∷ above) a b (Stopped_before l x f h) (Stopped_before l' x' f' h') = one_in_way above (Some f) (Some f') h h'
  one_in_way (last ∷ above) a b (Stopped_before l x f h) (Stopped_here l' x' h' stops') = absurd (let e = one_in_way above (Some f) None h h' in cc)
  one_in_way (last ∷ above) a b (Stopped_before l x f h) (Passes l' x' h' passes') = absurd (let e = one_in_way above (Some f) None h h' in cc)
  one_in_way (last ∷ above) a b (Stopped_here l x h stops) (Stopped_before l' x' f' h') = absurd (let e = one_in_way above None (Some f') h h' in cc)
  one_in_way (last ∷ above) a b (Stopped_here l x h stops) (Stopped_here l' x' h' stops') = refl
  one_in_way (last ∷ above) a b (Stopped_here l x h stops) (Passes l' x' h' passes') = absurd (stops passes')
  one_in_way (last ∷ above) a b (Passes l x h passes) (Stopped_before l' x' f' h') = absurd (let e = one_in_way above None (Some f') h h' in cc)
  one_in_way (last ∷ above) a b (Passes l x h passes) (Stopped_here l' x' h' stops') = absurd (stops' passes)
  one_in_way (last ∷ above) a b (Passes l x h passes) (Passes l' x' h' passes') = refl

module _ (forms : ℕ → Form) (first : ℕ) (room : Room) where
  one_obstacle : (above : List Above) (what : Option Item) (operands : List Operand) (a b : Option Obstacle) → FirstObstacle forms first room above what operands a
      → FirstObstacle forms first room above what operands b → a ≡ b
  one_obstacle above what operands a b (Is_needed f e) (Is_needed f' e') = sym e ∙ e'
  one_obstacle above what operands a b (Is_needed f e) (Is_in_way f' e' h') = absurd (cc)
  one_obstacle above what operands a b (Is_needed f e) (Is_room e' h') = absurd (cc)
  one_obstacle above what operands a b (Is_in_way f e h) (Is_needed f' e') = absurd (cc)
  one_obstacle above what operands a b (Is_in_way f e h) (Is_in_way f' e' h') = one_in_way forms first what above (Some f) (Some f') h h'
  one_obstacle above what operands a b (Is_in_way f e h) (Is_room e' h') = absurd (let same = one_in_way forms first what above (Some f) None h h' in cc)
  one_obstacle above what operands a b (Is_room e h) (Is_needed f' e') = absurd (cc)
  one_obstacle above what operands a b (Is_room e h) (Is_in_way f' e' h') = absurd (let same = one_in_way forms first what above None (Some f') h h' in cc)
  one_obstacle above what operands a b (Is_room e h) (Is_room e' h') = refl

  one_more : (first : ℕ) (it : Standing) (a b : Obstacle) (x y : List Waiting) → (let one : Option Obstacle = Some a in one) ≡ Some b → x ≡ y
      → (let all : List Waiting = waits_for first it a ∷ x in all) ≡ waits_for first it b ∷ y
  one_more first it a b x y e f = let same : a ≡ b = cc in cc

  one_list : (standing : List Standing) (a b : List Waiting) → AreWaiting forms first room standing a → AreWaiting forms first room standing b → a ≡ b
  one_list [] a b No_more No_more = refl
  one_list (it ∷ others) a b (One_waits i o f x h k) (One_waits i' o' f' x' h' k') =
      one_more first it f f' x x' (one_obstacle it.above it.what it.operands (Some f) (Some f') h h') (one_list others x x' k k')
  one_list (it ∷ others) a b (One_waits i o f x h k) (One_is_free i' o' x' h' k') = absurd (let e = one_obstacle it.above it.what it.operands (Some f) None h h' in cc)
  one_list (it ∷ others) a b (One_is_free i o x h k) (One_waits i' o' f' x' h' k') = absurd (let e = one_obstacle it.above it.what it.operands None (Some f') h h' in cc)
  one_list (it ∷ others) a b (One_is_free i o x h k) (One_is_free i' o' x' h' k') = one_list others x x' k k'

pub waits_have_one_answer : WaitsHaveOneAnswer
waits_have_one_answer first w found others h k = one_list w.forms first _ _ found others h k
