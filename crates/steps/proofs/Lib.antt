-- Fields that were read (SoundLaws); steps one after the other (StepsLaws).
pub mod SoundLaws
pub mod StepsLaws
