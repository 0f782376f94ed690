-- The words are read from left to right: the refusal is for the first that stands for nothing.
use Rattle.gtdesk_words.specs.ClockWords.{texts_of}
use Rattle.gtdesk_words.proofs.ClockFacts.{at_dawn, at_dusk, at_sunrise, at_sunset}
use Rattle.gtdesk_words.proofs.clocks.clocks_of.Goals as goal

pub returns-in-Err-event_of : goal.returns-in-Err-event_of
returns-in-Err-event_of c =
    at_sunrise (texts_of c.args.words.now) c.in-Err-event_of.refusal c.in-Ok.open_end c.in-Ok-points_of.points
    c.in-Ok.ensures.given c.in-Ok-points_of.ensures.given c.in-Err-event_of.ensures.given

pub returns-in-Err-event_of-2 : goal.returns-in-Err-event_of-2
returns-in-Err-event_of-2 c =
    at_sunset (texts_of c.args.words.now) c.in-Err-event_of-2.refusal c.in-Ok.open_end c.in-Ok-points_of.points
    c.in-Ok.ensures.given c.in-Ok-points_of.ensures.given c.in-Ok-event_of.sunrise c.in-Ok-event_of.ensures.given
    c.in-Err-event_of-2.ensures.given

pub returns-in-Err-event_of-3 : goal.returns-in-Err-event_of-3
returns-in-Err-event_of-3 c =
    at_dawn (texts_of c.args.words.now) c.in-Err-event_of-3.refusal c.in-Ok.open_end c.in-Ok-points_of.points
    c.in-Ok.ensures.given c.in-Ok-points_of.ensures.given c.in-Ok-event_of.sunrise c.in-Ok-event_of.ensures.given
    c.in-Ok-event_of-2.sunset c.in-Ok-event_of-2.ensures.given c.in-Err-event_of-3.ensures.given

pub returns-in-Err-event_of-4 : goal.returns-in-Err-event_of-4
returns-in-Err-event_of-4 c =
    at_dusk (texts_of c.args.words.now) c.in-Err-event_of-4.refusal c.in-Ok.open_end c.in-Ok-points_of.points
    c.in-Ok.ensures.given c.in-Ok-points_of.ensures.given c.in-Ok-event_of.sunrise c.in-Ok-event_of.ensures.given
    c.in-Ok-event_of-2.sunset c.in-Ok-event_of-2.ensures.given c.in-Ok-event_of-3.dawn c.in-Ok-event_of-3.ensures.given
    c.in-Err-event_of-4.ensures.given
