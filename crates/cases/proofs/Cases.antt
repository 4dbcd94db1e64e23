-- All cases.
use Rattle.cases.specs.{Cases.Cases}
use Rattle.cases.proofs.{Cards.{clocks, first_card, inbox, second_card, switching}, Example.checked_by_example, Guest.guest_cases, LoneCard.lone_card, Order.{forms, kinds, numbers, order}, SettingUp.setting_up, Sound.{slots, sound_guests, sound_messages, sound_phases}, Unreached.unreached}

pub cases : Cases
cases =
    record {
      guest = guest_cases;
      example = checked_by_example;
      setting_up = setting_up;
      numbers = numbers;
      kinds = kinds;
      forms = forms;
      order = order;
      first_card = first_card;
      second_card = second_card;
      clocks = clocks;
      switching = switching;
      inbox = inbox;
      sound_guests = sound_guests;
      sound_messages = sound_messages;
      sound_phases = sound_phases;
      slots = slots;
      unreached = unreached;
      lone_card = lone_card;
    }
