-- What one item or test meets, and its entry.
use Rattle.std.proofs.Common.{◌≡◌, ◌↔◌, ℕ, Bool, true, false, ◌-◌, List, [], ◌∷◌, ◌++◌, Option, Some, None, sym, ◌∙◌, subst, append-nil}
use Rattle.pc_word.proofs.Truth.{failed, held}
use Rattle.pc_word.specs.declared.item.Item.{Item}
use Rattle.pc_word.specs.declared.item.Operand.{Operand}
use Rattle.pc_linear.specs.Form.{Form}
use Rattle.pc_waiting.specs.declared.obstacle.Obstacle.{Obstacle}
use Rattle.pc_waiting.specs.declared.obstacle.Waiting.{Waiting}
use Rattle.pc_waiting.specs.declared.path.Above.{Above}
use Rattle.pc_waiting.specs.declared.room.Room.{Room}
use Rattle.pc_waiting.specs.declared.walk.Setting.{Setting}
use Rattle.pc_waiting.specs.Waiting.{LetsPass, met, FirstInWay, Nothing_above, Stopped_before, Stopped_here, Passes, needed, lacking, FirstObstacle, Is_needed, Is_in_way, Is_room}
use Rattle.pc_waiting.specs.Waiting.{Standing, AreWaiting, No_more, One_waits, One_is_free}
use Rattle.pc_waiting.specs.models.Walk.{forms_of, LooksAt}

-- ---- what is in its way

module _ (forms : ℕ → Form) (first : ℕ) (what : Option Item) where
  pub nothing_above : FirstInWay forms first what [] None
  nothing_above = Nothing_above

  module _ (last : Above) (above : List Above) where
    pub stopped_before : (found : Obstacle) (before : Option Obstacle) → before ≡ Some found → FirstInWay forms first what above before
        → FirstInWay forms first what (last ∷ above) (Some found)
    stopped_before found before e h = Stopped_before last above found (subst (FirstInWay forms first what above) e h)

    pub stopped_here : (found : Obstacle) (before : Option Obstacle) (passes : Bool) → before ≡ None → FirstInWay forms first what above before
        → (passes ≡ true) ↔ LetsPass forms last.kind what → passes ≡ false → found ≡ met first last → FirstInWay forms first what (last ∷ above) (Some found)
    stopped_here found before passes e h iff not_passed is =
        subst (λ (o : Obstacle). FirstInWay forms first what (last ∷ above) (Some o)) (sym is)
        (Stopped_here last above (subst (FirstInWay forms first what above) e h) (failed iff not_passed))

    pub passed_by : (before : Option Obstacle) (passes : Bool) → before ≡ None → FirstInWay forms first what above before
        → (passes ≡ true) ↔ LetsPass forms last.kind what → passes ≡ true → FirstInWay forms first what (last ∷ above) None
    passed_by before passes e h iff passed = Passes last above (subst (FirstInWay forms first what above) e h) (held iff passed)

pub ruleset ways = (nothing_above, stopped_before, stopped_here, passed_by)

-- ---- its first obstacle

module _ (forms : ℕ → Form) (first : ℕ) (room : Room) (above : List Above) (what : Option Item) (operands : List Operand) where
  pub is_needed : (found : Obstacle) (needs : Option Obstacle) → needs ≡ needed first above operands → needs ≡ Some found
      → FirstObstacle forms first room above what operands (Some found)
  is_needed found needs is e = Is_needed found (sym is ∙ e)

  pub is_in_way : (found : Obstacle) (needs met : Option Obstacle) → needs ≡ needed first above operands → needs ≡ None
      → FirstInWay forms first what above met → met ≡ Some found → FirstObstacle forms first room above what operands (Some found)
  is_in_way found needs met is e h f = Is_in_way found (sym is ∙ e) (subst (FirstInWay forms first what above) f h)

  pub is_room : (needs met lacks : Option Obstacle) → needs ≡ needed first above operands → needs ≡ None
      → FirstInWay forms first what above met → met ≡ None → lacks ≡ lacking room what → FirstObstacle forms first room above what operands lacks
  is_room needs met lacks is e h f same =
      subst (FirstObstacle forms first room above what operands) (sym same) (Is_room (sym is ∙ e) (subst (FirstInWay forms first what above) f h))

pub ruleset obstacles = (is_needed, is_in_way, is_room)

-- ---- its entry

module _ (s : Setting) (above : List Above) (tag origin : ℕ) (what : Option Item) (operands : List Operand) (before after : List Waiting) where
  pub looks_free : (found : Option Obstacle) → FirstObstacle (forms_of s) s.first s.room above what operands found → found ≡ None
      → after ≡ before → LooksAt s above tag origin what operands before after
  looks_free found h e same = record {
    more = [];
    appends = same ∙ sym (append-nil before);
    waits = λ place. One_is_free (record { tag = tag; origin = origin; what = what; operands = operands; above = above; place = place }) [] []
        (subst (FirstObstacle (forms_of s) s.first s.room above what operands) e h) No_more;
  }

  pub looks_held : (found : Option Obstacle) (obstacle : Obstacle) (entry : Waiting) → FirstObstacle (forms_of s) s.first s.room above what operands found
      → found ≡ Some obstacle → entry ≡ record { iteration = tag - s.first; origin = origin; what = what; obstacle = obstacle }
      → after ≡ before ++ entry ∷ [] → LooksAt s above tag origin what operands before after
  looks_held found obstacle entry h e is same = record {
    more = entry ∷ [];
    appends = same;
    waits = λ place.
        let it : Standing = record { tag = tag; origin = origin; what = what; operands = operands; above = above; place = place } in
        subst (λ (told : Waiting). AreWaiting (forms_of s) s.first s.room (it ∷ []) (told ∷ [])) (sym is)
        (One_waits it [] obstacle [] (subst (FirstObstacle (forms_of s) s.first s.room above what operands) e h) No_more);
  }

pub ruleset looking = (looks_free, looks_held)
