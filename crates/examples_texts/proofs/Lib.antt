mod TextsSpelled
mod TextsReadable
mod TextsRun
mod SafeTexts
