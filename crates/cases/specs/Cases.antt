-- All cases: 01's, and those that its rules need beside them, each a sentence of 01 tried on an example, over the definitions that the code's
-- contracts cite. tests/wrong-rules shows which case refuses which wrong rule.
use Rattle.cases.specs.{Cards.{Clocks, FirstCard, Inbox, SecondCard, Switching}, Example.CheckedByExample, Guest.GuestCases, LoneCard.LoneCard, Order.{Forms, Kinds, Numbers, Order}, SettingUp.SettingUp, Sound.{Slots, SoundGuests, SoundMessages, SoundPhases}, Unreached.Unreached}

pub record Cases : Type 0 where
  pub guest : GuestCases
  pub example : CheckedByExample
  pub setting_up : SettingUp
  pub numbers : Numbers
  pub kinds : Kinds
  pub forms : Forms
  pub order : Order
  pub first_card : FirstCard
  pub second_card : SecondCard
  pub clocks : Clocks
  pub switching : Switching
  pub inbox : Inbox
  pub sound_guests : SoundGuests
  pub sound_messages : SoundMessages
  pub sound_phases : SoundPhases
  pub slots : Slots
  pub unreached : Unreached
  pub lone_card : LoneCard
